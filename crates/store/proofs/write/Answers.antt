-- `write` meets its contract: a refusal of the sheet is the call's, and an admitted sheet passes to the call's own answer.
use mathlib.Core.Path.{ap, ◌∙◌}
use Rattle.paper.specs.Sheet.{Sheet}
use Rattle.paper.specs.Writing.{writes_admitted, writes}
use Rattle.sheet.proofs.Calls.{call-refused, call-answer}
use Rattle.store.proofs.write.Goals as goal

pub returns-in-Err : goal.returns-in-Err
unfolding writes
returns-in-Err c = let a = c.args in call-refused a.sheet.now c.admit.ensures.told (writes_admitted a.sheet.now a.message a.stuck a.levels) c.in-Err.is

pub returns-in-Ok : goal.returns-in-Ok
unfolding writes
returns-in-Ok c =
    let a = c.args in
    call-answer a.sheet.now c.admit.ensures.told c.in-Ok.is (writes_admitted a.sheet.now a.message a.stuck a.levels)
    (c.write.ensures ∙ ap (λ (s : Sheet). writes_admitted s a.message a.stuck a.levels) c.in-Ok.ensures.same)
