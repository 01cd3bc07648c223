-- `first_zero` meets its contract: none of the words before place j is 0.
use Rattle.std.proofs.Common.{◌≡◌, eqb, get_or}
use Rattle.paper.specs.First.{first, nowhere}
use Rattle.elimination.proofs.first_zero.Given as goal

abbrev pub invariant-loop-j : goal.invariant-loop-j
invariant-loop-j l = first l.j (λ i. eqb (get_or l.kept i (record { rest = 0; choice = 0 })).rest 0) ≡ nowhere
