-- `say_values` meets its contract: the text that is put and that of the labels and values that are left are the whole.
-- It is one loop for the labels of every verb.
use mathlib.Core.Path.{◌≡◌, ap, ◌∙◌}
use mathlib.Core.List.{List, ◌++◌}
use Prim.Native.Nat.{ℕ, ◌+◌}
use native.Mathlib.Omega.{arith}
use lib.ListN.{take, drop, get_or, length-append}
use Rattle.std.proofs.Common.{rules, MatchOption, []}
use Rattle.text.specs.Puts.{decimal}
use Rattle.text.proofs.Puts.{decimal-le, kept-behind, put-join, put_step, put_whole}
use Rattle.answers.specs.Answers.{labelled}
use Rattle.answers.proofs.Answers.{label-le, label-turn, label-end}
use Rattle.answers.proofs.say_values.Goals as goal

pub loop-value-preserved : goal.loop-value-preserved
loop-value-preserved c =
    let l = c.loop-value in
    let a = c.args in
    let i = l.value-index in
    let t = c.next_token in
    let label = t.result.0.now in
    let rest = c.unwrap_or-labels in
    let next = rest.result.now in
    let left : MatchOption t.result.1 (next ≡ []) (λ r. next ≡ r.now) = search rules in
    let both = put-join c.put-named.ensures c.put_number-to.ensures in
    record {
      wide = omega (arith, l.invariant.wide);
      few = omega (
        arith,
        both.ends,
        length-append label (decimal (get_or a.values.now i 0)),
        decimal-le 20 (get_or a.values.now i 0),
        l.invariant.few,
        label-le l.labels.now label next t.result.1 t.ensures.rest_value left,
      );
      whole =
          put_step (labelled next (drop (i + 1) a.values.now)) l.invariant.whole
          (label-turn l.labels.now label next t.result.1 t.ensures.token_value t.ensures.rest_value left a.values.now i (omega arith)) both;
      kept = both.kept ∙ kept-behind a.out.now l.out l.to _ _ both.ends l.invariant.kept;
    }

pub returns-clause-put : goal.returns-clause-put
returns-clause-put c =
    let l = c.loop-value in
    put_whole (omega arith) (omega (arith, l.invariant.wide, l.invariant.few))
    (l.invariant.whole ∙ ap (λ (t : List ℕ). take l.to l.out ++ t) (label-end l.labels.now c.args.values.now l.value-index (omega arith))) l.invariant.kept
