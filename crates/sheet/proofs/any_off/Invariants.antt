-- `any_off` meets its contract: no row before i breaks the rule.
use mathlib.Core.Path.{◌≡◌}
use Rattle.paper.specs.First.{nowhere, first}
use Rattle.paper.specs.Sheet.{off}
use Rattle.sheet.proofs.any_off.Given as goal

abbrev pub invariant-loop-i : goal.invariant-loop-i
invariant-loop-i l = first l.i (off l.own l.gs l.others) ≡ nowhere
