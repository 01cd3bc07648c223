-- `put_cells` meets its contract: after i turns the room begins with the cells of the first i rows.
use mathlib.Core.Path.{◌≡◌}
use mathlib.Core.List.{map}
use lib.ListN.{take}
use Rattle.paper.specs.Tables.{cells}
use Rattle.tables.proofs.put_cells.Given as goal

abbrev pub invariant-loop-i : goal.invariant-loop-i
invariant-loop-i l = take l.i l.room ≡ take l.i (map (cells l.from l.count) l.rows)
