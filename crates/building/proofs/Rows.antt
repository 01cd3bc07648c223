-- A built sheet row by row: its formulas are the code's rows, Q + RP by products, and each row of the sheet by its number.
-- For the code that makes the rows. Assumes nothing.
use mathlib.Core.Path.{◌≡◌, sym, ap, ap₂, ◌∙◌}
use mathlib.Core.List.{List, ◌++◌}
use Prim.Native.Nat.{ℕ, ◌+◌, ◌-◌, ◌%◌, ◌^◌, ◌≤◌, ◌<◌}
use native.Mathlib.Omega.{arith}
use lib.ListN.{length, get_or, get_or-append}
use lib.Seq.{get_or-append-add}
use Rattle.paper.specs.Words.{cell, product, products, sum, ◌⊕◌}
use Rattle.paper.specs.Tables.{each, identity, zeros, column, transposed, times, joined, blocks, built_g1, built_g0, built_h, built_m, built}
use Rattle.words.proofs.Cells.{ext}
use Rattle.words.proofs.Sums.{cell-⊕, ⊕-lt}
use Rattle.words.proofs.Products.{cell-products, products_lt}
use Rattle.words.proofs.Rows.{sum-zero}
use Rattle.blocks.proofs.Lists.{length-each, get_or-each, each_same, get_or-map}
use Rattle.blocks.proofs.Columns.{column-products, column-lt, cell-column, product-column}
use Rattle.building.specs.Rows.{row_g1, row_g0, mixed, row_h, row_m, rows_of}

-- ---- the formulas, row by row

-- [A B C] with the rows that its blocks have
blocks-rows : (k l m : ℕ) (A B C : List ℕ) (row : ℕ → ℕ) → length A ≡ m
    → ((i : ℕ) → i < m → joined k l (get_or A i 0) (get_or B i 0) (get_or C i 0) ≡ row i) → blocks k l A B C ≡ each m row
blocks-rows k l m A B C row e h =
    ap (λ (count : ℕ). each count (λ i. joined k l (get_or A i 0) (get_or B i 0) (get_or C i 0))) e ∙ each_same m _ row h

-- the same blocks
joined_same : (k l : ℕ) {a b c x y z : ℕ} → a ≡ x → b ≡ y → c ≡ z → joined k l a b c ≡ joined k l x y z
joined_same k l {a} {b} {c} {x} {y} {z} p q s = ap₂ (λ (u v : ℕ). joined k l u v c) p q ∙ ap (joined k l x y) s

module _ (k l : ℕ) (P : List ℕ) where
  rows-G1 : built_g1 k l P ≡ each k (row_g1 k l P)
  rows-G1 =
      blocks-rows k l k (identity k) (zeros k) P (row_g1 k l P) (length-each k (λ i. 2 ^ i))
      (λ i h. ap₂ (λ (u v : ℕ). joined k l u v (get_or P i 0)) (get_or-each k (λ j. 2 ^ j) i h) (get_or-each k (λ j. 0) i h))

  pub length-G1 : length (built_g1 k l P) ≡ k
  length-G1 = ap length rows-G1 ∙ length-each k (row_g1 k l P)

  pub row-of-G1 : (i : ℕ) → i < k → get_or (built_g1 k l P) i 0 ≡ row_g1 k l P i
  row-of-G1 i h = ap (λ (rows : List ℕ). get_or rows i 0) rows-G1 ∙ get_or-each k (row_g1 k l P) i h

module _ (k l : ℕ) (R Q : List ℕ) (count : length R ≡ l) where
  rows-G0 : built_g0 k l R Q ≡ each l (row_g0 k l R Q)
  rows-G0 =
      blocks-rows k l l R (identity l) Q (row_g0 k l R Q) count
      (λ j h. ap (λ (v : ℕ). joined k l (get_or R j 0) v (get_or Q j 0)) (get_or-each l (λ i. 2 ^ i) j h))

  pub length-G0 : length (built_g0 k l R Q) ≡ l
  length-G0 = ap length rows-G0 ∙ length-each l (row_g0 k l R Q)

  pub row-of-G0 : (j : ℕ) → j < l → get_or (built_g0 k l R Q) j 0 ≡ row_g0 k l R Q j
  row-of-G0 j h = ap (λ (rows : List ℕ). get_or rows j 0) rows-G0 ∙ get_or-each l (row_g0 k l R Q) j h

module _ (k l : ℕ) (P R Q : List ℕ) where
  rows-H : (r : ℕ) → built_h r k l P R Q ≡ each r (row_h k l P R Q)
  rows-H r =
      blocks-rows k l r (transposed r P) (transposed r (mixed P R Q)) (identity r) (row_h k l P R Q) (length-each r (column P))
      (λ c h. joined_same k l (get_or-each r (column P) c h) (get_or-each r (column (mixed P R Q)) c h) (get_or-each r (λ i. 2 ^ i) c h))

  rows-M : built_m k l R ≡ each k (row_m k l R)
  rows-M =
      blocks-rows k l k (identity k) (transposed k R) (zeros k) (row_m k l R) (length-each k (λ i. 2 ^ i))
      (λ i h. joined_same k l (get_or-each k (λ j. 2 ^ j) i h) (get_or-each k (column R) i h) (get_or-each k (λ j. 0) i h))

  pub built-rows : (n : ℕ) → length R ≡ l → built n k l P R Q ≡ rows_of n k l P R Q
  unfolding built
  built-rows n e = ap₂ ◌++◌ (rows-G1 k l P) (ap₂ ◌++◌ (rows-G0 k l R Q e) (ap₂ ◌++◌ (rows-H (n - (k + l))) rows-M))

-- ---- "Q + RP"

module _ (P R Q : List ℕ) where
  pub length-mixed : length (mixed P R Q) ≡ length Q
  length-mixed = length-each (length Q) (λ j. get_or Q j 0 ⊕ get_or (times R P) j 0)

  -- row j of RP is the sum of the rows of P that row j of R picks
  pub row-mixed : (j : ℕ) → j < length Q → get_or (mixed P R Q) j 0 ≡ get_or Q j 0 ⊕ sum P (get_or R j 0)
  row-mixed j h =
      get_or-each (length Q) (λ i. get_or Q i 0 ⊕ get_or (times R P) i 0) j h ∙ ap (λ (x : ℕ). get_or Q j 0 ⊕ x) (get_or-map (sum P) (sum-zero P) R j)

  -- its column c, by products alone
  pub column-mixed : (c : ℕ) → length Q ≡ length R → column (mixed P R Q) c ≡ products Q (2 ^ c) ⊕ products R (products P (2 ^ c))
  column-mixed c e =
      ext (length Q) (column-lt (length Q) (mixed P R Q) length-mixed c)
      (⊕-lt (length Q) (products Q (2 ^ c)) (products R (products P (2 ^ c))) (products_lt Q (2 ^ c)) (rw e (products_lt R (products P (2 ^ c)))))
      (λ j h. left j h ∙ sym (right j))
    where
      left : (j : ℕ) → j < length Q → cell (column (mixed P R Q) c) j ≡ (cell (get_or Q j 0) c + cell (sum P (get_or R j 0)) c) % 2
      left j h =
          cell-column (mixed P R Q) c j ∙ ap (λ (x : ℕ). cell x c) (row-mixed j h) ∙ cell-⊕ (get_or Q j 0) (sum P (get_or R j 0)) c

      right : (j : ℕ) → cell (products Q (2 ^ c) ⊕ products R (products P (2 ^ c))) j ≡ (cell (get_or Q j 0) c + cell (sum P (get_or R j 0)) c) % 2
      right j =
          cell-⊕ (products Q (2 ^ c)) (products R (products P (2 ^ c))) j
          ∙ ap₂ (λ (x y : ℕ). (x + y) % 2) (ap (λ (x : ℕ). cell x j) (sym (column-products Q c)) ∙ cell-column Q c j)
          (cell-products R (products P (2 ^ c)) j ∙ ap (product (get_or R j 0)) (sym (column-products P c)) ∙ product-column (get_or R j 0) P c)

-- ---- the rows of the sheet, by their numbers

get_or-past : (xs ys : List ℕ) (m i : ℕ) → length xs ≡ m → m ≤ i → get_or (xs ++ ys) i 0 ≡ get_or ys (i - m) 0
get_or-past xs ys m i e h =
    let q : i ≡ length xs + (i - m) = omega arith in ap (λ (j : ℕ). get_or (xs ++ ys) j 0) q ∙ get_or-append-add xs ys (i - m) 0

get_or-in : (m : ℕ) (row : ℕ → ℕ) (ys : List ℕ) (i : ℕ) → i < m → get_or (each m row ++ ys) i 0 ≡ row i
get_or-in m row ys i h = get_or-append (each m row) ys 0 i (omega (arith, length-each m row)) ∙ get_or-each m row i h

module _ (n k l : ℕ) (P R Q : List ℕ) (count : length R ≡ l) (i : ℕ) where
  -- the rows from G0's on, and from H's on
  abbrev from-G0 : List ℕ
  from-G0 = each l (row_g0 k l R Q) ++ (each (n - (k + l)) (row_h k l P R Q) ++ each k (row_m k l R))

  abbrev from-H : List ℕ
  from-H = each (n - (k + l)) (row_h k l P R Q) ++ each k (row_m k l R)

  by_rows : get_or (built n k l P R Q) i 0 ≡ get_or (rows_of n k l P R Q) i 0
  by_rows = ap (λ (rows : List ℕ). get_or rows i 0) (built-rows k l P R Q n count)

  pub at-G1 : i < k → get_or (built n k l P R Q) i 0 ≡ row_g1 k l P i
  at-G1 h = by_rows ∙ get_or-in k (row_g1 k l P) from-G0 i h

  past-G1 : k ≤ i → get_or (built n k l P R Q) i 0 ≡ get_or from-G0 (i - k) 0
  past-G1 h = by_rows ∙ get_or-past (each k (row_g1 k l P)) from-G0 k i (length-each k (row_g1 k l P)) h

  past-G0 : k + l ≤ i → get_or (built n k l P R Q) i 0 ≡ get_or from-H (i - (k + l)) 0
  past-G0 h =
      let e : i - k - l ≡ i - (k + l) = omega arith in
      past-G1 (omega arith) ∙ get_or-past (each l (row_g0 k l R Q)) from-H l (i - k) (length-each l (row_g0 k l R Q)) (omega arith)
      ∙ ap (λ (j : ℕ). get_or from-H j 0) e

  pub at-G0 : k ≤ i → i < k + l → get_or (built n k l P R Q) i 0 ≡ row_g0 k l R Q (i - k)
  at-G0 h m = past-G1 h ∙ get_or-in l (row_g0 k l R Q) from-H (i - k) (omega arith)

  pub at_H : k + l ≤ i → i < n → get_or (built n k l P R Q) i 0 ≡ row_h k l P R Q (i - (k + l))
  at_H h m = past-G0 h ∙ get_or-in (n - (k + l)) (row_h k l P R Q) (each k (row_m k l R)) (i - (k + l)) (omega arith)

  pub at-M : k + l ≤ n → n ≤ i → i < n + k → get_or (built n k l P R Q) i 0 ≡ row_m k l R (i - n)
  at-M h m u =
      let e : i - (k + l) - (n - (k + l)) ≡ i - n = omega arith in
      past-G0 (omega arith)
      ∙ get_or-past (each (n - (k + l)) (row_h k l P R Q)) (each k (row_m k l R)) (n - (k + l)) (i - (k + l)) (length-each (n - (k + l)) (row_h k l P R Q)) (omega arith)
      ∙ ap (λ (j : ℕ). get_or (each k (row_m k l R)) j 0) e ∙ get_or-each k (row_m k l R) (i - n) (omega arith)
