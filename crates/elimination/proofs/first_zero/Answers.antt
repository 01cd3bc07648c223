-- `first_zero` meets its contract: none of the words before place j is 0.
use Rattle.std.proofs.Common.{refl, sym, rules}
use borrow.Author.Tests.{eq-eqb, ne_eqb}
use Rattle.paper.specs.First.{first}
use Rattle.words.proofs.Firsts.{none_more, first-hit}
use Rattle.elimination.proofs.first_zero.Goals as goal

pub loop-j-init : goal.loop-j-init
unfolding first
loop-j-init c = refl

pub returns-then-row-eq0 : goal.returns-then-row-eq0
returns-then-row-eq0 c = sym (first-hit _ _ _ (search rules) c.loop-j.invariant (eq-eqb _ _ c.if-row-eq0.true))

pub loop-j-preserved : goal.loop-j-preserved
loop-j-preserved c = none_more _ _ c.loop-j.invariant (ne_eqb _ _ c.if-row-eq0.false)
