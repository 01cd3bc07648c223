-- `read` meets its contract: 10 and 11, then what is heard.
use mathlib.Core.Path.{refl, ◌∙◌}
use Rattle.paper.specs.Reading.{reads_admitted}
use Rattle.rules.proofs.Stages.{told-refused, told-next}
use Rattle.reading.proofs.Judging.{readable-stage}
use Rattle.reading.proofs.read.Goals as goal

pub returns-in-Err : goal.returns-in-Err
unfolding reads_admitted
returns-in-Err c = let a = c.args in rw (← c.sheet.view_is) (told-refused (readable-stage c.sheet.inside.n a.y a.radius) c.judge.ensures _ c.in-Err.is)

pub returns-in-Ok : goal.returns-in-Ok
unfolding reads_admitted
returns-in-Ok c =
    let a = c.args in
    c.hear.ensures
    ∙ rw (← c.sheet.view_is) (told-next (readable-stage c.sheet.inside.n a.y a.radius) c.judge.ensures c.in-Ok.is _ refl)
