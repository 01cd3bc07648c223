-- `run` meets its contract: nothing is held at the beginning.
use Rattle.std.proofs.Common.{arith}
use Rattle.text.proofs.Pieces.{whole-nil}
use Rattle.console.proofs.run.Goals as goal

pub loop-init : goal.loop-init
loop-init g c = record { inside = omega arith; whole = whole-nil 10 }
