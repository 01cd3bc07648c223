-- As much of a room as is lent is a room of that size, and the one that a line asks for.
-- For rooms that are locals of the largest size. Assumes nothing.
use mathlib.Core.Path.{◌≡◌, refl, ap}
use mathlib.Core.List.{List, ◌∷◌}
use Prim.Native.Nat.{ℕ, zero, suc, ◌≤◌}
use native.Mathlib.Omega.{arith}
use lib.ListN.{take, replicate}

-- the first of equal entries
pub lent : (size most fill : ℕ) → size ≤ most → take size (replicate most fill) ≡ replicate size fill
lent zero most fill h = refl
lent (suc size) zero fill h = absurd (omega arith)
lent (suc size) (suc most) fill h = ap (λ (xs : List ℕ). fill ∷ xs) (lent size most fill (omega arith))
