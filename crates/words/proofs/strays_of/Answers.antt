-- `strays_of` meets its contract: at the width itself no cell is above.
use mathlib.Core.Path.{◌≡◌, sym, ap, ◌∙◌}
use Prim.Native.Nat.{ℕ, ◌%◌, ◌^◌, ◌<◌}
use native.Mathlib.Nat.{mod-eq_of_lt}
use native.Mathlib.Omega.{arith}
use Rattle.paper.specs.Words.{width, ◌⊕◌}
use Rattle.words.proofs.Sums.{⊕-self}
use Rattle.words.proofs.strays_of.Goals as goal

pub returns-then-n-lt-WIDTH : goal.returns-then-n-lt-WIDTH
unfolding ◌⊕◌
returns-then-n-lt-WIDTH c = rw c.cell_of.ensures

pub returns-else-n-lt-WIDTH : goal.returns-else-n-lt-WIDTH
returns-else-n-lt-WIDTH c =
    let a = c.args in
    let e : a.n ≡ width = omega arith in
    let h : a.x < 2 ^ width = omega arith in
    sym (ap (λ (m : ℕ). a.x ⊕ a.x % 2 ^ m) e ∙ ap (λ (y : ℕ). a.x ⊕ y) (mod-eq_of_lt h) ∙ ⊕-self a.x)
