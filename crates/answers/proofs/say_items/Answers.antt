-- `say_items` meets its contract: the text that is put and that of the numbers that are left are the whole.
-- It is one loop for every list of an answer.
use mathlib.Core.Path.{ap, ◌∙◌}
use mathlib.Core.List.{List, ◌++◌}
use Prim.Native.Nat.{ℕ, ◌+◌}
use native.Mathlib.Omega.{arith}
use lib.ListN.{take, drop, get_or}
use Rattle.text.proofs.Puts.{decimal-le, kept-behind, put-join, put_step, put_whole}
use Rattle.answers.specs.Answers.{spaced}
use Rattle.answers.proofs.Answers.{spaced-turn, spaced-end}
use Rattle.answers.proofs.say_items.Goals as goal

pub loop-x-preserved : goal.loop-x-preserved
loop-x-preserved c =
    let l = c.loop-x in
    let i = l.x-index in
    let xs = c.args.xs.now in
    let both = put-join c.put-next.ensures c.put_number-to.ensures in
    record {
      wide = omega (arith, l.invariant.wide);
      few = omega (arith, c.put-next.ensures.ends, c.put_number-to.ensures.ends, l.invariant.few, decimal-le 20 (get_or xs i 0));
      whole = put_step (spaced (drop (i + 1) xs)) l.invariant.whole (spaced-turn xs i (omega arith)) both;
      kept = both.kept ∙ kept-behind c.args.out.now l.out l.to _ _ both.ends l.invariant.kept;
    }

pub returns-clause-put : goal.returns-clause-put
returns-clause-put c =
    let l = c.loop-x in
    put_whole (omega arith) (omega (arith, l.invariant.wide, l.invariant.few))
    (l.invariant.whole ∙ ap (λ (t : List ℕ). take l.to l.out ++ t) (spaced-end c.args.xs.now l.x-index (omega arith))) l.invariant.kept
