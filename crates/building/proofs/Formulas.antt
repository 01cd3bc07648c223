-- The products that rules 3 and 4 ask for, of the rows that the formulas give: over any number of cells.
-- For the sheet that is built. Assumes nothing.
use mathlib.Core.Path.{◌≡◌, ap, ◌∙◌}
use mathlib.Core.List.{List}
use Prim.Native.Nat.{ℕ, ◌+◌, ◌%◌, ◌^◌, ◌<◌}
use native.Mathlib.Omega.{arith}
use lib.ListN.{get_or}
use lib.Pow.{pow_pos, pow-lt}
use Rattle.paper.specs.Promised.{Fits}
use Rattle.paper.specs.Words.{cell, product, sum}
use Rattle.paper.specs.Tables.{column}
use Rattle.words.proofs.Sums.{cell-⊕}
use Rattle.words.proofs.Products.{product-unit, product-zero-l, product-zero-r}
use Rattle.blocks.proofs.Blocks.{product-joined}
use Rattle.blocks.proofs.Columns.{column-lt, product-column, unit-column}
use Rattle.building.specs.Rows.{row_g1, row_g0, mixed, row_h, row_m}
use Rattle.building.proofs.Rows.{length-mixed, row-mixed}

module _ (n k l : ℕ) (P R Q : List ℕ) (ok : Fits n k l P R Q) where
  pub P-lt : (c : ℕ) → column P c < 2 ^ k
  P-lt = column-lt k P ok.rows-P

  pub R-lt : (i : ℕ) → column R i < 2 ^ l
  R-lt = column-lt l R ok.rows-R

  pub mixed-lt : (c : ℕ) → column (mixed P R Q) c < 2 ^ l
  mixed-lt = column-lt l (mixed P R Q) (length-mixed P R Q ∙ ok.rows-Q)

  -- [I 0 P] and [Pᵀ (Q + RP)ᵀ I]: P and P
  pub G1-H : (i c : ℕ) → i < k → product (row_g1 k l P i) (row_h k l P R Q c) ≡ 0
  G1-H i c h =
      product-joined k l (2 ^ i) 0 (get_or P i 0) (column P c) (column (mixed P R Q) c) (2 ^ c) (pow-lt h) (pow_pos l) (P-lt c) (mixed-lt c)
      ∙ omega (arith, product-unit (get_or P i 0) c, product-zero-l (column (mixed P R Q) c), unit-column i P c)

  -- [R I Q] and [Pᵀ (Q + RP)ᵀ I]: Q, Q + RP and RP
  pub G0-H : (j c : ℕ) → j < l → product (row_g0 k l R Q j) (row_h k l P R Q c) ≡ 0
  G0-H j c h =
      product-joined k l (get_or R j 0) (2 ^ j) (get_or Q j 0) (column P c) (column (mixed P R Q) c) (2 ^ c) (ok.columns-R j h) (pow-lt h) (P-lt c) (mixed-lt c)
      ∙ omega (arith, product-unit (get_or Q j 0) c, middle, product-column (get_or R j 0) P c)
    where
      middle : product (2 ^ j) (column (mixed P R Q) c) ≡ (cell (get_or Q j 0) c + cell (sum P (get_or R j 0)) c) % 2
      middle =
          unit-column j (mixed P R Q) c ∙ ap (λ (x : ℕ). cell x c) (row-mixed P R Q j (omega (arith, ok.rows-Q))) ∙ cell-⊕ (get_or Q j 0) (sum P (get_or R j 0)) c

  -- [I 0 P] and [I Rᵀ 0]: I
  pub G1-M : (i j : ℕ) → i < k → j < k → product (row_g1 k l P i) (row_m k l R j) ≡ cell (2 ^ i) j
  G1-M i j h m =
      product-joined k l (2 ^ i) 0 (get_or P i 0) (2 ^ j) (column R j) 0 (pow-lt h) (pow_pos l) (pow-lt m) (R-lt j)
      ∙ omega (arith, product-zero-r (get_or P i 0), product-zero-l (column R j), product-unit (2 ^ i) j)

  -- [R I Q] and [I Rᵀ 0]: R and R
  pub G0-M : (j i : ℕ) → j < l → i < k → product (row_g0 k l R Q j) (row_m k l R i) ≡ 0
  G0-M j i h m =
      product-joined k l (get_or R j 0) (2 ^ j) (get_or Q j 0) (2 ^ i) (column R i) 0 (ok.columns-R j h) (pow-lt h) (pow-lt m) (R-lt i)
      ∙ omega (arith, product-zero-r (get_or Q j 0), unit-column j R i, product-unit (get_or R j 0) i)
