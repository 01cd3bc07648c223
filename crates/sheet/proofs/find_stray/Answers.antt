-- `find_stray` meets its contract: no row before i has a bit at cell n or above.
use mathlib.Core.Path.{refl, sym, ◌∙◌}
use borrow.Author.Rules.{rules}
use lib.ListN.{get_or}
use Rattle.paper.specs.First.{first}
use Rattle.words.proofs.Firsts.{none_more, first-hit}
use Rattle.sheet.proofs.Tests.{stray-yes, stray-no}
use Rattle.sheet.proofs.find_stray.Goals as goal

pub loop-i-init : goal.loop-i-init
unfolding first
loop-i-init c = refl

pub returns-then-not-is_low : goal.returns-then-not-is_low
returns-then-not-is_low c =
    sym
    (first-hit _ _ _ (search rules) c.loop-i.invariant
    (stray-yes c.args.n (get_or c.args.rows.now c.loop-i.i 0) (sym c.is_low.ensures ∙ c.if-not-is_low.true)))

pub loop-i-preserved : goal.loop-i-preserved
loop-i-preserved c =
    none_more _ _ c.loop-i.invariant
    (stray-no c.args.n (get_or c.args.rows.now c.loop-i.i 0) (sym c.is_low.ensures ∙ c.if-not-is_low.false))
