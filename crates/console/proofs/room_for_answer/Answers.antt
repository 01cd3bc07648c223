-- `room_for_answer` meets its contract: the length of the room.
-- `run` asks it of the room for an answer.
use Rattle.console.proofs.Rooms.{zeros}
use Rattle.console.proofs.room_for_answer.Goals as goal

pub returns : goal.returns
returns c = zeros 1634464
