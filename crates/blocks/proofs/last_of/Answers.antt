-- `last_of` meets its contract: no cell is at the width or above.
use native.Mathlib.Omega.{arith}
use Rattle.paper.specs.Words.{width}
use Rattle.blocks.proofs.Blocks.{shifted_down}
use Rattle.blocks.proofs.last_of.Goals as goal

pub returns : goal.returns
returns c = shifted_down c.args.x c.args.from width c.unwrap_or.result c.checked_shr.result (omega arith) c.checked_shr.ensures c.unwrap_or.ensures
