-- `find_misplaced` meets its contract: the word that it makes has the cells that break the rule.
use mathlib.Core.Path.{ap, ◌∙◌}
use Prim.Native.Nat.{ℕ}
use lib.Bits.{bit_and, bit_or}
use lib.Dec.{eqb}
use Rattle.paper.specs.First.{first}
use Rattle.paper.specs.Words.{width, cell, ◌⊕◌}
use Rattle.words.proofs.Firsts.{first-same}
use Rattle.writing.proofs.Breaches.{misplaced-cell}
use Rattle.writing.proofs.find_misplaced.Goals as goal

pub returns : goal.returns
unfolding ◌⊕◌
returns c =
    let a = c.args in
    c.lowest_of.ensures
    ∙ ap (λ (x : ℕ). first width (λ i. eqb (cell (bit_or x (a.levels ⊕ bit_and a.levels a.stuck)) i) 1)) c.strays_of.ensures
    ∙ first-same _ _ width (λ i l. misplaced-cell a.n a.stuck a.levels i)
