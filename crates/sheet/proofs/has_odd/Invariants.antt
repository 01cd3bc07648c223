-- `has_odd` meets its contract: the word is 1 if x has product 1 with a row before the one that is next, else 0.
use mathlib.Core.Path.{◌≡◌}
use mathlib.Core.Bool.{cond, not}
use lib.Dec.{eqb}
use lib.ListN.{get_or}
use Rattle.paper.specs.First.{any}
use Rattle.paper.specs.Words.{product}
use Rattle.sheet.proofs.has_odd.Given as goal

abbrev pub invariant-loop-row : goal.invariant-loop-row
invariant-loop-row l = l.odd ≡ cond (any l.row-index (λ j. not (eqb (product l.x (get_or l.rows j 0)) 0))) 1 0
