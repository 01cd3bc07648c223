-- `reply` meets its contract: each verb's arm says what its call tells, behind its labels.
-- The search finds each arm but this one, where it gives up at a limit.
use mathlib.Core.Path.{ap}
use Rattle.text.specs.Bytes.{bytes}
use Rattle.text.proofs.Puts.{put-text}
use Rattle.answers.specs.Answers.{spoken}
use Rattle.verbs.proofs.reply.Goals as goal

pub returns-in-2-clause-put : goal.returns-in-2-clause-put
returns-in-2-clause-put c = rw c.in-2.is (put-text (ap (spoken (bytes "message | z | tried ")) c.read.ensures) c.say-in-2.ensures.put)
