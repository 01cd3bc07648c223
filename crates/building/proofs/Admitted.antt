-- "Any tables of the right sizes give a sheet that is admitted": each rule in turn.
-- For the promise, and for the tables that a built sheet gives back. Assumes nothing.
use mathlib.Core.Path.{◌≡◌, sym, ap, ap₂, ◌∙◌, subst}
use mathlib.Core.Bool.{false, not}
use mathlib.Core.List.{List, [], ◌++◌}
use Prim.Native.Nat.{ℕ, ◌+◌, ◌-◌, ◌^◌, ◌<◌}
use native.Mathlib.Decide.{dec_lt}
use native.Mathlib.Omega.{arith}
use borrow.Author.Tests.{eq-eqb, ne_eqb, lt-leb}
use lib.ListN.{length, get_or, take, length-append}
use lib.Seq.{take_at, drop_at, get_or-take}
use lib.Pow.{pow_pos, pow-lt}
use Rattle.paper.specs.Promised.{Fits, Systematic}
use Rattle.paper.specs.Refusals.{answer}
use Rattle.paper.specs.Sheet.{Sheet, sheet, G0, H, M, G, off, off_code, off_message, wanted, Admitted}
use Rattle.paper.specs.Tables.{column, joined, built_g1, built_g0, built_h, built_m, built}
use Rattle.paper.specs.Words.{cell, product, products, sum}
use Rattle.words.proofs.Cells.{cell-above, cell-unit, cell-unit-swap, ext}
use Rattle.words.proofs.Firsts.{none_below, any-never}
use Rattle.words.proofs.Products.{product-unit, products_lt, cell-products}
use Rattle.words.proofs.Rows.{product-sum, sum-take}
use Rattle.elimination.proofs.Span.{Free}
use Rattle.sheet.proofs.Verdicts.{Passed, passed-next, part_length, part_at, no-wanted, zero-wanted, unit-wanted}
use Rattle.blocks.proofs.Blocks.{joined-lt, cell-middle, cell-last}
use Rattle.blocks.proofs.Lists.{length-each}
use Rattle.building.specs.Rows.{row_g1, row_g0, mixed, row_h, row_m}
use Rattle.building.proofs.Rows.{length-G1, length-G0, built-rows, at-G1, at-G0, at_H, at-M}
use Rattle.building.proofs.Sizes.{fits-shaped}
use Rattle.building.proofs.Formulas.{P-lt, R-lt, mixed-lt, G1-H, G0-H, G1-M, G0-M}

-- row i of gs is not off: it has the products wanted
not-off : (own : ℕ) (gs others : List ℕ) (i : ℕ)
    → ((j : ℕ) → j < length others → product (get_or gs i 0) (get_or others j 0) ≡ wanted own i j) → off own gs others i ≡ false
not-off own gs others i h = any-never _ (length others) (λ j l. ap not (eq-eqb _ _ (h j l)))

-- rows that have the cells from `from` on as an identity: none is a sum of earlier ones
free-identity : (rows : List ℕ) (from : ℕ)
    → ((i j : ℕ) → i < length rows → j < length rows → cell (get_or rows i 0) (from + j) ≡ cell (2 ^ i) j) → Free rows
free-identity rows from own j h =
    any-never _ (2 ^ j) (λ d l. ne_eqb (sum (take j rows) d) (get_or rows j 0) (λ e. clash d l (sym (sum-take j rows d l) ∙ e)))
  where
    -- the cell at from + j is row j's alone
    alone : products rows (2 ^ (from + j)) ≡ 2 ^ j
    alone =
        ext (length rows) (products_lt rows (2 ^ (from + j))) (pow-lt h)
        (λ i l. cell-products rows (2 ^ (from + j)) i ∙ product-unit (get_or rows i 0) (from + j) ∙ own i j l h ∙ cell-unit-swap i j)

    clash : (d : ℕ) → d < 2 ^ j → sum rows d ≡ get_or rows j 0 → ⊥
    clash d l e =
        let no : cell (sum rows d) (from + j) ≡ 0 =
        sym (product-unit (sum rows d) (from + j)) ∙ product-sum rows d (2 ^ (from + j)) ∙ ap (product d) alone ∙ product-unit d j
        ∙ cell-above l j (omega arith) in
        let one : cell (sum rows d) (from + j) ≡ 1 = ap (λ (x : ℕ). cell x (from + j)) e ∙ own j j h h ∙ cell-unit j in
        omega arith

-- a rule over the rows of G1 and G0: for the former, and for the latter
by_part : {A : ℕ → Type 0} (k l : ℕ) → ((i : ℕ) → i < k → A i) → ((j : ℕ) → j < l → A (k + j)) → (i : ℕ) → i < k + l → A i
by_part {A} k l f g i h = go (dec_lt i k)
  where
    go : Dec (i < k) → A i
    go (yes p) = f i p
    go (no p) = let e : k + (i - k) ≡ i = omega arith in subst A e (g (i - k) (omega arith))

module _ (n k l : ℕ) (P R Q : List ℕ) (ok : Fits n k l P R Q) where
  -- r
  abbrev rest : ℕ
  rest = n - (k + l)

  -- the sheet that is built
  abbrev made : Sheet
  made = sheet n k l (built n k l P R Q)

  -- ---- rule 1

  pub length-built : length (built n k l P R Q) ≡ n + k
  length-built = ap length (built-rows k l P R Q n ok.rows-R) ∙ simp (length-append, length-each) (omega (arith, ok.space))

  -- ---- rule 2

  row_lt : (a b c : ℕ) → a < 2 ^ k → b < 2 ^ l → c < 2 ^ rest → joined k l a b c < 2 ^ n
  row_lt a b c ha hb hc =
      let e : rest + l + k ≡ n = omega (arith, ok.space) in
      subst (λ (m : ℕ). joined k l a b c < 2 ^ m) e (joined-lt k l rest a b c ha hb hc)

  pub row_g1-lt : (i : ℕ) → i < k → row_g1 k l P i < 2 ^ n
  row_g1-lt i h = row_lt (2 ^ i) 0 (get_or P i 0) (pow-lt h) (pow_pos l) (ok.columns-P i h)

  pub row_g0-lt : (j : ℕ) → j < l → row_g0 k l R Q j < 2 ^ n
  row_g0-lt j h = row_lt (get_or R j 0) (2 ^ j) (get_or Q j 0) (ok.columns-R j h) (pow-lt h) (ok.columns-Q j h)

  pub row_h-lt : (c : ℕ) → c < rest → row_h k l P R Q c < 2 ^ n
  row_h-lt c h = row_lt (column P c) (column (mixed P R Q) c) (2 ^ c) (P-lt n k l P R Q ok c) (mixed-lt n k l P R Q ok c) (pow-lt h)

  pub row_m-lt : (i : ℕ) → i < k → row_m k l R i < 2 ^ n
  row_m-lt i h = row_lt (2 ^ i) (column R i) 0 (pow-lt h) (R-lt n k l P R Q ok i) (pow_pos rest)

  low-built : (i : ℕ) → i < n + k → get_or (built n k l P R Q) i 0 < 2 ^ n
  low-built i h = go (dec_lt i k) (dec_lt i (k + l)) (dec_lt i n)
    where
      is : {x : ℕ} → get_or (built n k l P R Q) i 0 ≡ x → x < 2 ^ n → get_or (built n k l P R Q) i 0 < 2 ^ n
      is e q = subst (λ (x : ℕ). x < 2 ^ n) (sym e) q

      go : Dec (i < k) → Dec (i < k + l) → Dec (i < n) → get_or (built n k l P R Q) i 0 < 2 ^ n
      go (yes a) b c = is (at-G1 n k l P R Q ok.rows-R i a) (row_g1-lt i a)
      go (no a) (yes b) c = is (at-G0 n k l P R Q ok.rows-R i (omega arith) b) (row_g0-lt (i - k) (omega arith))
      go (no a) (no b) (yes c) = is (at_H n k l P R Q ok.rows-R i (omega arith) c) (row_h-lt (i - (k + l)) (omega arith))
      go (no a) (no b) (no c) = is (at-M n k l P R Q ok.rows-R i ok.space (omega arith) h) (row_m-lt (i - n) (omega arith))

  -- ---- the rows of its parts

  G-row1 : (i : ℕ) → i < k → get_or (G made) i 0 ≡ row_g1 k l P i
  G-row1 i h = get_or-take (k + l) (built n k l P R Q) i 0 (omega arith) ∙ at-G1 n k l P R Q ok.rows-R i h

  G-row0 : (j : ℕ) → j < l → get_or (G made) (k + j) 0 ≡ row_g0 k l R Q j
  G-row0 j h =
      get_or-take (k + l) (built n k l P R Q) (k + j) 0 (omega arith) ∙ at-G0 n k l P R Q ok.rows-R (k + j) (omega arith) (omega arith)
      ∙ ap (row_g0 k l R Q) (let e : k + j - k ≡ j = omega arith in e)

  count-G0 : length (G0 made) ≡ l
  count-G0 = part_length (built n k l P R Q) k l (omega (arith, length-built, ok.space))

  row-G0 : (j : ℕ) → j < l → get_or (G0 made) j 0 ≡ row_g0 k l R Q j
  row-G0 j h =
      part_at (built n k l P R Q) k l (omega (arith, length-built, ok.space)) j h ∙ at-G0 n k l P R Q ok.rows-R (k + j) (omega arith) (omega arith)
      ∙ ap (row_g0 k l R Q) (let e : k + j - k ≡ j = omega arith in e)

  count-H : length (H made) ≡ rest
  count-H = part_length (built n k l P R Q) (k + l) rest (omega (arith, length-built, ok.space))

  row-H : (c : ℕ) → c < rest → get_or (H made) c 0 ≡ row_h k l P R Q c
  row-H c h =
      part_at (built n k l P R Q) (k + l) rest (omega (arith, length-built, ok.space)) c h
      ∙ at_H n k l P R Q ok.rows-R (k + l + c) (omega arith) (omega (arith, ok.space))
      ∙ ap (row_h k l P R Q) (let e : k + l + c - (k + l) ≡ c = omega arith in e)

  count-M : length (M made) ≡ k
  count-M = part_length (built n k l P R Q) n k (omega (arith, length-built))

  row-M : (i : ℕ) → i < k → get_or (M made) i 0 ≡ row_m k l R i
  row-M i h =
      part_at (built n k l P R Q) n k (omega (arith, length-built)) i h
      ∙ at-M n k l P R Q ok.rows-R (n + i) ok.space (omega arith) (omega arith) ∙ ap (row_m k l R) (let e : n + i - n ≡ i = omega arith in e)

  -- ---- rules 3 and 4

  on-code : (i : ℕ) → i < k + l → off_code made i ≡ false
  on-code =
      by_part {A = λ i. off_code made i ≡ false} k l
      (λ i h. not-off 0 (G made) (H made) i
      (λ c m. ap₂ product (G-row1 i h) (row-H c (omega (arith, count-H)))
      ∙ G1-H n k l P R Q ok i c h ∙ sym (zero-wanted i c)))
      (λ j h. not-off 0 (G made) (H made) (k + j)
      (λ c m. ap₂ product (G-row0 j h) (row-H c (omega (arith, count-H)))
      ∙ G0-H n k l P R Q ok j c h ∙ sym (zero-wanted (k + j) c)))

  on-message : (i : ℕ) → i < k + l → off_message made i ≡ false
  on-message =
      by_part {A = λ i. off_message made i ≡ false} k l
      (λ i h. not-off 1 (G made) (M made) i
      (λ j m. let q : j < k = omega (arith, count-M) in ap₂ product (G-row1 i h) (row-M j q)
      ∙ G1-M n k l P R Q ok i j h q ∙ sym (unit-wanted i j)))
      (λ j h. not-off 1 (G made) (M made) (k + j)
      (λ i m. let q : i < k = omega (arith, count-M) in ap₂ product (G-row0 j h) (row-M i q)
      ∙ G0-M n k l P R Q ok j i h q ∙ sym (no-wanted 1 (k + j) i (λ e. omega arith))))

  -- ---- rules 5 and 6: the identities in [R I Q] and [Pᵀ (Q + RP)ᵀ I]

  free-G0 : Free (G0 made)
  free-G0 =
      free-identity (G0 made) k
      (λ i j h m.
      let p : i < l = omega (arith, count-G0) in
      ap (λ (x : ℕ). cell x (k + j)) (row-G0 i p)
      ∙ cell-middle k l (get_or R i 0) (2 ^ i) (get_or Q i 0) (ok.columns-R i p) (pow-lt p) j (omega (arith, count-G0)))

  free-H : Free (H made)
  free-H =
      free-identity (H made) (k + l)
      (λ i j h m.
      ap (λ (x : ℕ). cell x (k + l + j)) (row-H i (omega (arith, count-H)))
      ∙ cell-last k l (column P i) (column (mixed P R Q) i) (2 ^ i) (P-lt n k l P R Q ok i) (mixed-lt n k l P R Q ok i) j)

  -- ---- all six

  passed : Passed made
  passed = record {
    shape = fits-shaped n k l P R Q (built n k l P R Q) ok length-built;
    strays = none_below _ (length (built n k l P R Q)) (λ i h. lt-leb _ _ (low-built i (omega (arith, length-built))));
    codes = none_below _ (k + l) on-code;
    messages = none_below _ (k + l) on-message;
    sums-G0 = none_below _ l (λ j h. free-G0 j (omega (arith, count-G0)));
    sums-H = none_below _ rest (λ j h. free-H j (omega (arith, count-H)));
  }

  -- "Any tables of the right sizes give a sheet that is admitted"
  pub built-admitted : Admitted made
  built-admitted = passed-next made passed (answer [])

  -- ---- and it has the shape, with these tables

  pub built-systematic : Systematic made P R Q
  unfolding built
  built-systematic = record {
    fits = ok;
    is-G1 = take_at (built_g1 k l P) (built_g0 k l R Q ++ (built_h rest k l P R Q ++ built_m k l R)) k (length-G1 k l P);
    is-G0 = ap (take l) (drop_at (built_g1 k l P) (built_g0 k l R Q ++ (built_h rest k l P R Q ++ built_m k l R)) k (length-G1 k l P))
        ∙ take_at (built_g0 k l R Q) (built_h rest k l P R Q ++ built_m k l R) l (length-G0 k l R Q ok.rows-R);
  }
