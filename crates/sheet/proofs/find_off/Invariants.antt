-- `find_off` meets its contract: no row before i breaks the rule, and row i not with a row before j.
use mathlib.Core.Path.{◌≡◌}
use mathlib.Core.Bool.{not}
use lib.Dec.{eqb}
use lib.ListN.{get_or}
use Rattle.paper.specs.First.{nowhere, first}
use Rattle.paper.specs.Sheet.{wanted, off}
use Rattle.paper.specs.Words.{product}
use Rattle.sheet.proofs.find_off.Given as goal

abbrev pub invariant-loop-j : goal.invariant-loop-j
invariant-loop-j l = first l.j (λ m. not (eqb (product (get_or l.gs l.i 0) (get_or l.others m 0)) (wanted l.own l.i m))) ≡ nowhere

abbrev pub invariant-loop-i : goal.invariant-loop-i
invariant-loop-i l = first l.i (off l.own l.gs l.others) ≡ nowhere
