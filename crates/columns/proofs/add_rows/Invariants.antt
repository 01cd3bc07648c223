-- `add_rows` meets its contract: the rows passed are added.
use Rattle.std.proofs.Common.{◌^◌, take}
use Rattle.columns.specs.Columns.{Added}
use Rattle.columns.proofs.add_rows.Given as goal

abbrev pub invariant-loop-i : goal.invariant-loop-i
invariant-loop-i l = Added (take l.i l.rows) (2 ^ l.start) l.fn.cols l.cols
