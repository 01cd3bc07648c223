-- `is_off` meets its contract: row i breaks the rule with one of the others, which are gone over in parts.
use Rattle.std.proofs.Common.{get_or}
use mathlib.Core.Path.{◌∙◌}
use Rattle.sheet.proofs.Odd.{off-all, off-parts}
use Rattle.sheet.proofs.is_off.Goals as goal

pub returns-then-others-i : goal.returns-then-others-i
returns-then-others-i c = c.has_odd.ensures ∙ off-all c.args.own c.args.i (get_or c.args.gs.now c.args.i 0) c.args.others.now c.then-others-i.either

pub returns : goal.returns
returns c =
    off-parts c.args.own c.args.i (get_or c.args.gs.now c.args.i 0) c.args.others.now c.if-others-i.false c.has_odd-before.ensures c.product_of.ensures
    c.has_odd-behind.ensures
