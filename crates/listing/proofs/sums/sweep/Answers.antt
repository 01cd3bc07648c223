-- `sweep` meets its contract: what is left of the list, from the weight v on, gives the answer of the whole list.
use mathlib.Core.Path.{sym, ◌∙◌}
use native.Mathlib.Omega.{arith}
use Rattle.listing.proofs.Sweeping.{count-more, place-le, sweep-end, sweep-hit, sweep-more}
use Rattle.listing.proofs.sums.sweep.Goals as goal

pub overflow_add-result : goal.overflow_add-result
overflow_add-result c =
    let l = c.loop-v in
    omega (arith, l.invariant.room, count-more c.args.n l.v c.args.end (omega arith), place-le _ c.args.n l.v (sym c.seek.ensures ∙ c.in-Some.is))

pub returns-in-Some : goal.returns-in-Some
returns-in-Some c =
    sym (c.loop-v.invariant.left ∙ sweep-hit _ _ _ _ _ (omega arith) (sym c.seek.ensures ∙ c.in-Some.is))

pub overflow_add-tried : goal.overflow_add-tried
overflow_add-tried c =
    let l = c.loop-v in
    omega (arith, l.invariant.room, count-more c.args.n l.v c.args.end (omega arith), c.ways-tried.ensures)

pub loop-v-preserved : goal.loop-v-preserved
loop-v-preserved c =
    let l = c.loop-v in
    record {
      room = omega (arith, l.invariant.room, count-more c.args.n l.v c.args.end (omega arith), c.ways-tried.ensures);
      left = l.invariant.left ∙ sweep-more _ _ _ _ _ (omega arith) (sym c.seek.ensures ∙ c.in_default.is) c.ways-tried.ensures;
    }

pub returns : goal.returns
returns c = sym (c.loop-v.invariant.left ∙ sweep-end _ _ _ _ _ (omega arith))
