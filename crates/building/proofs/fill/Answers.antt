-- `fill` meets its contract: after i turns the room begins with the sheet's first i rows.
use native.Mathlib.Omega.{arith}
use Rattle.blocks.proofs.Lists.{fill-next, fill_end}
use Rattle.building.proofs.Admitted.{length-built}
use Rattle.building.proofs.fill.Goals as goal

pub loop-i-preserved : goal.loop-i-preserved
loop-i-preserved c =
    let full = length-built _ _ _ _ _ _ c.requires.0 in
    fill-next _ _ _ c.loop-i.invariant _ c.row_at.ensures (omega arith) (omega arith)

pub returns : goal.returns
returns c =
    let full = length-built _ _ _ _ _ _ c.requires.0 in
    fill_end _ _ _ c.loop-i.invariant (omega arith) (omega arith)
