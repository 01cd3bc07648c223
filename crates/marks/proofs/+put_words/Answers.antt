-- `put_words` meets its contract, by its own over the cells below c, of one weight less: the sums of s and the words over the cells passed have their marks.
use Rattle.paper.specs.Words.{◌⊕◌}
use Rattle.marks.proofs.Marking.{get_or-first, kept-kept, kept-marked, marked_start, marked_more}
use Rattle.marks.proofs.+put_words.Goals as goal

pub loop-c-init : goal.loop-c-init
loop-c-init t c = (marked_start _ _ _ _ _ c.put.ensures.0, c.put.ensures.1)

pub loop-c-preserved : goal.loop-c-preserved
unfolding ◌⊕◌
loop-c-preserved t c =
    let a = c.args in
    let l = c.loop-c in
    let p = c.put_words.ensures in
    let m = rw (get_or-first _ l.c a.cols.now c.loop-c-test.true) at p.0 in (
      marked_more _ _ _ _ l.c a.v (kept-marked p.1 l.invariant.0) m,
      kept-kept l.invariant.1 p.1,
    )
