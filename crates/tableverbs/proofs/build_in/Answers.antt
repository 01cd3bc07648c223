-- `build_in` meets its contract: what building told, and the room behind it.
-- It is the answer of `tosheet`, whose line has the tables.
use mathlib.Core.Path.{ap, ◌∙◌}
use Rattle.text.specs.Bytes.{bytes}
use Rattle.text.proofs.Puts.{put-text, put-join}
use Rattle.answers.specs.Answers.{spoken, listed}
use Rattle.tableverbs.proofs.build_in.Goals as goal

pub returns-clause-put : goal.returns-clause-put
returns-clause-put c =
    put-join (put-text (ap (spoken (bytes "done")) (c.from-told.ensures ∙ c.build.ensures.result_value)) c.say-said.ensures.put)
    (put-text (ap (listed (bytes " room ")) c.build.ensures.room_after) c.say_list.ensures.put)
