-- `measure_d1` meets its contract: a refusal of the sheet is the call's, and an admitted sheet passes to the call's own answer.
use mathlib.Core.Path.{ap, ◌∙◌}
use Rattle.paper.specs.Sheet.{Sheet}
use Rattle.paper.specs.Plate.{measures_admitted_d1, measures_d1}
use Rattle.sheet.proofs.Calls.{call-refused, call-answer}
use Rattle.store.proofs.measure_d1.Goals as goal

pub returns-in-Err : goal.returns-in-Err
unfolding measures_d1
returns-in-Err c = let a = c.args in call-refused a.sheet.now c.admit.ensures.told (measures_admitted_d1 a.sheet.now a.cap) c.in-Err.is

pub returns-in-Ok : goal.returns-in-Ok
unfolding measures_d1
returns-in-Ok c =
    let a = c.args in
    call-answer a.sheet.now c.admit.ensures.told c.in-Ok.is (measures_admitted_d1 a.sheet.now a.cap)
    (c.measure_d1.ensures ∙ ap (λ (s : Sheet). measures_admitted_d1 s a.cap) c.in-Ok.ensures.same)
