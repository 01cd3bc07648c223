-- `raised` meets its contract: only a word that is 0 is raised by the width or more, and nothing is lost.
use Rattle.paper.specs.Words.{width}
use Rattle.blocks.proofs.Blocks.{shifted_up}
use Rattle.blocks.proofs.raised.Goals as goal

pub returns : goal.returns
returns c = shifted_up c.args.x c.args.by width c.unwrap_or.result c.checked_shl.result c.requires c.checked_shl.ensures c.unwrap_or.ensures
