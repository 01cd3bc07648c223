-- `put_cells` meets its contract: the sums of s and the cells passed have their marks, and those that were there are kept.
use Rattle.paper.specs.Words.{◌⊕◌}
use Rattle.marks.proofs.Marking.{get_or-first, kept-kept, kept-marked, marked-none, marked_start, marked_more}
use Rattle.marks.proofs.put_cells.Goals as goal

pub loop-col-init : goal.loop-col-init
loop-col-init c = (marked_start _ _ _ _ 1 c.put.ensures.0, c.put.ensures.1)

pub loop-col-preserved : goal.loop-col-preserved
unfolding ◌⊕◌
loop-col-preserved c =
    let a = c.args in
    let l = c.loop-col in
    let p = c.put-in-loop-col.ensures in
    let m = rw (get_or-first _ l.col-index a.cols.now c.loop-col-test.true) at p.0 in (
      marked_more _ _ _ _ l.col-index 1 (kept-marked p.1 l.invariant.0) (marked-none _ _ _ _ l.col-index m),
      kept-kept l.invariant.1 p.1,
    )
