-- `answer` meets its contract: nothing, `unknown`, or the reply to the call that the line asks for, and a newline.
-- It is how a line that has ended is answered.
use mathlib.Core.Path.{sym}
use lib.ListN.{take}
use Rattle.lines.proofs.Lines.{asked-stands}
use Rattle.verbs.specs.Replies.{table}
use Rattle.talk.proofs.answer.Goals as goal

pub reply-end-requires-clause-stands : goal.reply-end-requires-clause-stands
reply-end-requires-clause-stands c = asked-stands table c.args.line.now c.in-Call.verb (take c.in-Call.count c.ask.new.ns) (sym c.in-Call.ensures.meaning)
