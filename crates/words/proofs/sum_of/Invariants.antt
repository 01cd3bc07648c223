-- `sum_of` meets its contract: the rows passed and the rest of d's rows make the whole sum.
use Rattle.std.proofs.Common.{◌≡◌, ◌/◌, ◌^◌, drop}
use Rattle.paper.specs.Words.{sum, ◌⊕◌}
use Rattle.words.proofs.sum_of.Given as goal

abbrev pub invariant-loop-i : goal.invariant-loop-i
invariant-loop-i l = l.word ⊕ sum (drop l.i l.rows) (l.d / 2 ^ l.i) ≡ sum l.rows l.d
