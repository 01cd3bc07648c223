-- `put_cells` meets its contract: after i turns the room begins with the cells of the first i rows.
use mathlib.Core.Path.{sym, ◌∙◌}
use native.Mathlib.Omega.{arith}
use lib.ListN.{length-map}
use Rattle.paper.specs.Tables.{cells}
use Rattle.blocks.proofs.Lists.{fill-next}
use Rattle.tables.proofs.Back.{table_at}
use Rattle.tables.proofs.put_cells.Goals as goal

pub loop-i-preserved : goal.loop-i-preserved
loop-i-preserved c =
    let l = c.loop-i in
    let a = c.args in
    let full = length-map a.rows.now (cells a.from a.count) in
    fill-next _ _ _ l.invariant _ (c.cells_of.ensures ∙ sym (table_at a.from a.count a.rows.now l.i)) (omega arith) (omega arith)
