-- `columns` meets its contract: the rows `clear`, and above them `stirred`, are added to nothing.
use Rattle.std.proofs.Common.{arith}
use Rattle.paper.specs.Words.{width}
use Rattle.columns.proofs.Adding.{zeros-below, first_below, both-added}
use Rattle.columns.proofs.columns.Goals as goal

pub add_rows-requires : goal.add_rows-requires
add_rows-requires c = (omega arith, zeros-below width)

pub add_rows-requires-2 : goal.add_rows-requires-2
add_rows-requires-2 c = (c.requires, first_below width c.args.clear.now c.add_rows.new.cols c.add_rows.ensures)

pub returns : goal.returns
returns c = both-added width c.args.clear.now c.add_rows.new.cols c.add_rows.ensures c.args.stirred.now c.add_rows-2.new.cols c.add_rows-2.ensures
