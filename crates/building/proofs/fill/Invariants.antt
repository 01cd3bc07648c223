-- `fill` meets its contract: after i turns the room begins with the sheet's first i rows.
use mathlib.Core.Path.{◌≡◌}
use lib.ListN.{take}
use Rattle.paper.specs.Tables.{built_of}
use Rattle.building.proofs.fill.Given as goal

abbrev pub invariant-loop-i : goal.invariant-loop-i
invariant-loop-i l = take l.i l.room ≡ take l.i (built_of l.tables)
