-- `is_low` meets its contract: the shift by n - 1 leaves at most the lowest cell.
use Rattle.std.proofs.Common.{arith}
use Rattle.words.proofs.Cells.{low-test}
use Rattle.words.proofs.is_low.Goals as goal

pub returns-else-n-eq0 : goal.returns-else-n-eq0
returns-else-n-eq0 c = low-test c.args.n c.args.x (omega arith)
