-- `room_of` meets its contract: as much of the room as is lent is a room of that size.
-- Each room of a line is made by it.
use Rattle.lines.specs.Shapes.{most_room}
use Rattle.rooms.proofs.Rooms.{lent}
use Rattle.rooms.proofs.room_of.Goals as goal

pub returns : goal.returns
returns c size h = lent size most_room c.args.fill h
