-- `any_off` meets its contract: no row before i breaks the rule.
use mathlib.Core.Path.{refl, sym, ◌∙◌}
use Rattle.paper.specs.First.{first}
use Rattle.words.proofs.Firsts.{none_more, any-hit}
use Rattle.sheet.proofs.any_off.Goals as goal

pub loop-i-init : goal.loop-i-init
unfolding first
loop-i-init c = refl

pub loop-i-preserved : goal.loop-i-preserved
loop-i-preserved c = none_more _ _ c.loop-i.invariant (sym c.is_off.ensures ∙ c.if-is_off.false)

pub returns-then-is_off : goal.returns-then-is_off
returns-then-is_off c = sym (any-hit _ _ _ c.loop-i-test.true c.loop-i.invariant (sym c.is_off.ensures ∙ c.if-is_off.true))
