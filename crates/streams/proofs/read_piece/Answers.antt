-- `read_piece` meets its contract: no piece at a failure, a newline at the end, and a piece within the room.
-- It is where the end of the input becomes the end of its last line.
use Rattle.std.proofs.Common.{arith}
use Rattle.std.proofs.Math.Seq.{take-suc-set}
use Rattle.streams.proofs.read_piece.Goals as goal

pub returns-in-Ok-eq0-clause-input_after : goal.returns-in-Ok-eq0-clause-input_after
returns-in-Ok-eq0-clause-input_after g c = λ e. take-suc-set c.read_some.new.input 0 10 (omega arith)
