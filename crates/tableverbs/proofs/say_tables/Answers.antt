-- `say_tables` meets its contract: what was told, and the rooms, one after the other.
-- It ends the answer of a call that lends three rooms.
use borrow.Author.Rules.{rules}
use Rattle.text.proofs.Puts.{put-join}
use Rattle.tableverbs.proofs.say_tables.Goals as goal

pub returns-clause-put : goal.returns-clause-put
returns-clause-put c = search (rules, put-join)
