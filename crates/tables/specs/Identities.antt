-- What the code looks for in the rows of G1 and G0: an identity at some of their cells. Only private functions' contracts speak of it.
use Rattle.std.specs.Prelude.{Bool, not, List, ℕ, ◌^◌, eqb, length, get_or}
use Rattle.paper.specs.First.{any}
use Rattle.paper.specs.Tables.{cells}

-- row i of the rows is 1 at cell i alone of the cells from `from` on, `count` of them
abbrev pub identity_at : ℕ → ℕ → List ℕ → Bool
identity_at from count rows = not (any (length rows) (λ i. not (eqb (cells from count (get_or rows i 0)) (2 ^ i))))
