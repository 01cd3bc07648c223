-- `read` meets its contract: a refusal of the sheet is the call's, and an admitted sheet passes to the call's own answer.
use mathlib.Core.Path.{ap, ◌∙◌}
use Rattle.paper.specs.Sheet.{Sheet}
use Rattle.paper.specs.Reading.{reads_admitted, reads}
use Rattle.sheet.proofs.Calls.{call-refused, call-answer}
use Rattle.store.proofs.read.Goals as goal

pub returns-in-Err : goal.returns-in-Err
unfolding reads
returns-in-Err c = let a = c.args in call-refused a.sheet.now c.admit.ensures.told (reads_admitted a.sheet.now a.y a.radius) c.in-Err.is

pub returns-in-Ok : goal.returns-in-Ok
unfolding reads
returns-in-Ok c =
    let a = c.args in
    call-answer a.sheet.now c.admit.ensures.told c.in-Ok.is (reads_admitted a.sheet.now a.y a.radius)
    (c.read.ensures ∙ ap (λ (s : Sheet). reads_admitted s a.y a.radius) c.in-Ok.ensures.same)
