-- `has_odd` meets its contract: the word is 1 if x has product 1 with a row before the one that is next, else 0.
use mathlib.Core.Path.{refl, ap₂, ◌∙◌}
use lib.Bits.{bit_or}
use Rattle.paper.specs.First.{first}
use Rattle.sheet.proofs.Odd.{odd-next}
use Rattle.sheet.proofs.has_odd.Goals as goal

pub loop-row-init : goal.loop-row-init
unfolding first
loop-row-init c = refl

pub loop-row-preserved : goal.loop-row-preserved
loop-row-preserved c = ap₂ bit_or c.loop-row.invariant c.product_of-odd.ensures ∙ odd-next c.args.x c.args.rows.now c.loop-row.row-index
