-- `admit` meets its contract: the shape, then the rows' rules; and a sheet that passes them is sound.
use mathlib.Core.Path.{◌≡◌, refl, sym, ◌∙◌, subst}
use mathlib.Core.Bool.{true}
use mathlib.Core.List.{[]}
use Rattle.std.proofs.lemmas.Result.{err_from_is_err_and}
use Rattle.paper.specs.Sheet.{Sheet, shaped, judged, judged_rows, Admitted}
use Rattle.paper.specs.Refusals.{answer}
use Rattle.sheet.specs.Sound.{Sound}
use Rattle.sheet.proofs.Verdicts.{sound}
use Rattle.sheet.proofs.admit.Goals as goal

-- a sheet of the right shape whose rows pass is admitted
passes : (s : Sheet) → shaped s ≡ true → answer [] ≡ judged_rows s (answer []) → Admitted s
unfolding judged
passes s shape rows = rw shape (sym rows)

pub returns-then-not-is_shaped-clause-told : goal.returns-then-not-is_shaped-clause-told
unfolding judged
returns-then-not-is_shaped-clause-told c = rw (sym c.is_shaped.ensures ∙ c.if-not-is_shaped.true) refl

pub returns-in_err-judge_rows-clause-told : goal.returns-in_err-judge_rows-clause-told
unfolding judged
returns-in_err-judge_rows-clause-told c =
    let p = err_from_is_err_and c.from_residual.result c.from_residual.ensures.1 in
    rw (p.1, p.2, sym c.is_shaped.ensures ∙ c.if-not-is_shaped.false) c.in_err-judge_rows.ensures

pub returns-clause-told : goal.returns-clause-told
returns-clause-told c =
    sym (passes c.args.sheet.now (sym c.is_shaped.ensures ∙ c.if-not-is_shaped.false) c.in_ok-judge_rows.ensures)

pub invariant_of-result : goal.invariant_of-result
invariant_of-result c =
    subst Sound (sym c.sheet.view_is) (sound c.args.sheet.now (passes c.args.sheet.now (sym c.is_shaped.ensures ∙ c.if-not-is_shaped.false) c.in_ok-judge_rows.ensures))
