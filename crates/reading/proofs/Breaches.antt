-- The cells that break rule 10, told by the word that the code makes of them.
-- For the judgement of the word that is read. Assumes nothing.
use mathlib.Core.Path.{◌≡◌, refl}
use mathlib.Core.Bool.{Bool, true, false, cond, ◌&&◌}
use Prim.Native.Nat.{ℕ, ◌%◌, ◌^◌}
use lib.Dec.{eqb, leb}
use Rattle.paper.specs.Words.{cell, ◌⊕◌}
use Rattle.paper.specs.Reading.{stray_cell}
use Rattle.words.proofs.Sums.{cell-strays}

-- rule 10, cell by cell
pub stray-cell : (n y i : ℕ) → eqb (cell (y ⊕ y % 2 ^ n) i) 1 ≡ stray_cell n y i
stray-cell n y i = rw (cell-strays y n i) (go (leb n i))
  where
    go : (high : Bool) → eqb (cond high (cell y i) 0) 1 ≡ (high && eqb (cell y i) 1)
    go true = refl
    go false = refl
