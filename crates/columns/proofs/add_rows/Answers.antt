-- `add_rows` meets its contract: the rows passed are added.
use Rattle.std.proofs.Common.{◌+◌, ◌^◌, arith}
use Rattle.columns.proofs.Adding.{added_none, added-below, added_more, double-fits}
use Rattle.columns.proofs.add_rows.Goals as goal

pub loop-i-init : goal.loop-i-init
loop-i-init c = added_none c.args.rows.now (2 ^ c.args.start) c.args.cols.now

pub add_row-requires : goal.add_row-requires
add_row-requires c =
    let a = c.args in
    let i = c.loop-i.i in
    (rw c.cell_of.ensures (added-below a.rows.now a.start i _ _ c.loop-i.invariant (omega arith) c.requires.1), double-fits (a.start + i) (omega arith) c.cell_of.ensures)

pub loop-i-preserved : goal.loop-i-preserved
loop-i-preserved c = added_more c.args.rows.now c.args.start c.loop-i.i _ _ c.loop-i.invariant _ (omega arith) c.cell_of.ensures c.add_row.ensures
