-- `put_cells` meets its contract: the sums of s and the cells passed have their marks, and those that were there are kept.
use Rattle.marks.specs.Marks.{Marked, Kept}
use Rattle.marks.proofs.put_cells.Given as goal

abbrev pub invariant-loop-col : goal.invariant-loop-col
invariant-loop-col l = Marked l.t l.cols l.h l.s l.col-index 1 × Kept l.fn.t l.t
