-- `measure_d0` meets its contract: a refusal of the sheet is the call's, and an admitted sheet passes to the call's own answer.
use mathlib.Core.Path.{ap, ◌∙◌}
use Rattle.paper.specs.Sheet.{Sheet}
use Rattle.paper.specs.Plate.{measures_admitted_d0, measures_d0}
use Rattle.sheet.proofs.Calls.{call-refused, call-answer}
use Rattle.store.proofs.measure_d0.Goals as goal

pub returns-in-Err : goal.returns-in-Err
unfolding measures_d0
returns-in-Err c = let a = c.args in call-refused a.sheet.now c.admit.ensures.told (measures_admitted_d0 a.sheet.now a.cap) c.in-Err.is

pub returns-in-Ok : goal.returns-in-Ok
unfolding measures_d0
returns-in-Ok c =
    let a = c.args in
    call-answer a.sheet.now c.admit.ensures.told c.in-Ok.is (measures_admitted_d0 a.sheet.now a.cap)
    (c.measure_d0.ensures ∙ ap (λ (s : Sheet). measures_admitted_d0 s a.cap) c.in-Ok.ensures.same)
