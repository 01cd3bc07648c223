-- `wpage` meets its contract: the copy of the page and the room for notes that are lent are the line's.
-- The shape of the verb has every number at the place that is read.
use mathlib.Core.Path.{◌∙◌}
use Prim.Native.Nat.{◌+◌}
use Rattle.lines.specs.Arguments.{at}
use Rattle.rooms.specs.Lent.{room_slots, page_at}
use Rattle.rooms.proofs.Lists.{words-clipped}
use Rattle.wholeverbs.proofs.wpage.Goals as goal

pub write_in-requires-clause-page_value : goal.write_in-requires-clause-page_value
write_in-requires-clause-page_value c =
    let ns = c.args.ns.now in
    c.copy_page-page.ensures ∙ words-clipped c.min-held.result (at ns (page_at ns)) room_slots (page_at ns + 1) ns c.min-held.ensures
