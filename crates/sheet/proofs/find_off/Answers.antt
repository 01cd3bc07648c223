-- `find_off` meets its contract: no row before i breaks the rule, and row i not with a row before j.
use mathlib.Core.Path.{refl, sym, ap}
use mathlib.Core.Bool.{not}
use borrow.Author.Rules.{rules}
use Rattle.paper.specs.First.{first}
use Rattle.words.proofs.Firsts.{none_more, first-hit, any-hit, any_none}
use Rattle.sheet.proofs.Tests.{eqb_yes, eqb_no}
use Rattle.sheet.proofs.find_off.Goals as goal

pub loop-i-init : goal.loop-i-init
unfolding first
loop-i-init c = refl

pub loop-j-init : goal.loop-j-init
unfolding first
loop-j-init c = refl

pub loop-j-preserved : goal.loop-j-preserved
loop-j-preserved c =
    none_more _ _ c.loop-j.invariant
    (ap not (eqb_yes c.product_of.ensures c.wanted_of.ensures c.if-product_of-wanted_of.false))

pub loop-i-preserved : goal.loop-i-preserved
loop-i-preserved c = none_more _ _ c.loop-i.invariant (any_none _ _ _ (search rules) (search rules) c.loop-j.invariant)

pub returns-then-product_of-wanted_of : goal.returns-then-product_of-wanted_of
returns-then-product_of-wanted_of c =
    sym
    (first-hit _ _ _ (search rules) c.loop-i.invariant
    (any-hit _ _ _ (search rules) c.loop-j.invariant
    (ap not (eqb_no c.product_of.ensures c.wanted_of.ensures c.if-product_of-wanted_of.true))))
