-- `read_slot` meets its contract: 10 and 11, then 16 for the radius, then what is heard.
use mathlib.Core.Path.{refl, ◌∙◌}
use borrow.Author.Tests.{lt-ltb, le-ltb}
use Rattle.paper.specs.Page.{slot_reads}
use Rattle.rules.proofs.Rules.{unless-stop, unless-pass}
use Rattle.rules.proofs.Stages.{told-refused, told-next}
use Rattle.reading.proofs.Judging.{readable-stage}
use Rattle.reading.proofs.read_slot.Goals as goal

pub returns-in-Err : goal.returns-in-Err
unfolding slot_reads
returns-in-Err c = let a = c.args in rw (← c.sheet.view_is) (told-refused (readable-stage c.sheet.inside.n a.y a.radius) c.judge.ensures _ c.in-Err.is)

pub returns-then-number-radius : goal.returns-then-number-radius
unfolding slot_reads
returns-then-number-radius c =
    let a = c.args in
    rw (← c.sheet.view_is)
    (told-next (readable-stage c.sheet.inside.n a.y a.radius) c.judge.ensures c.in_default.is _ (unless-stop 16 _ (le-ltb _ _ c.if-number-radius.true)))

pub returns : goal.returns
unfolding slot_reads
returns c =
    let a = c.args in
    c.hear.ensures
    ∙ rw (← c.sheet.view_is)
    (told-next (readable-stage c.sheet.inside.n a.y a.radius) c.judge.ensures c.in_default.is _ (unless-pass 16 _ (lt-ltb _ _ c.if-number-radius.false) refl))
