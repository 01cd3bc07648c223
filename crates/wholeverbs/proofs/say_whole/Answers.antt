-- `say_whole` meets its contract: what was told, the page and the notes, one after the other.
-- It ends the answer of a write of the whole page.
use borrow.Author.Rules.{rules}
use Rattle.text.proofs.Puts.{put-join}
use Rattle.wholeverbs.proofs.say_whole.Goals as goal

pub returns-clause-put : goal.returns-clause-put
returns-clause-put c = search (rules, put-join)
