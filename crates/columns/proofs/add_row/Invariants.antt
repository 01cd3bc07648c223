-- `add_row` meets its contract: what is added, and what the cells of x still add, is all; and x has fewer cells each time.
use Rattle.paper.specs.Words.{weight}
use Rattle.columns.proofs.Adding.{Adding}
use Rattle.columns.proofs.add_row.Given as goal

abbrev pub invariant-loop-c : goal.invariant-loop-c
invariant-loop-c l = Adding l.row l.bit l.fn.cols l.x l.cols

abbrev pub decreases-loop-c : goal.decreases-loop-c
decreases-loop-c l = weight l.x
