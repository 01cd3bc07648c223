-- "An admitted sheet whose G1 and G0 have that shape gives its tables back": the tables that stand in the sheet are the only ones with which it has
-- the shape, and a sheet that passes the test has it with them. For the promises. Assumes nothing.
use mathlib.Core.Path.{◌≡◌, sym, ap, ap₂, ◌∙◌, subst}
use mathlib.Core.Bool.{true, ◌&&◌, and-eq-true_iff}
use mathlib.Core.List.{List, map}
use Prim.Native.Nat.{ℕ, ◌+◌, ◌/◌, ◌%◌, ◌^◌, ◌<◌}
use native.Mathlib.Nat.{mod-lt, zero-div, zero-mod}
use native.Mathlib.Omega.{arith}
use lib.ListN.{length, get_or, length-map}
use lib.Pow.{pow_pos, pow-lt}
use lib.Seq.{ext_get_or}
use Rattle.paper.specs.Promised.{Fits, Systematic}
use Rattle.paper.specs.Sheet.{Sheet, r, G1, G0}
use Rattle.paper.specs.Tables.{cells, built_g1, built_g0, table_p, table_r, table_q, alike, systematic}
use Rattle.sheet.specs.Sound.{Sound}
use Rattle.blocks.proofs.Blocks.{joined-first, joined-last}
use Rattle.blocks.proofs.Lists.{get_or-map, alike_same, alike-rows}
use Rattle.building.specs.Rows.{row_g1, row_g0}
use Rattle.building.proofs.Rows.{length-G1, row-of-G1, length-G0, row-of-G0}

-- ---- cells of rows

-- the cells of 0 are 0, so that a row that is not there has none
cells-zero : (from count : ℕ) → cells from count 0 ≡ 0
cells-zero from count = ap (λ (x : ℕ). x % 2 ^ count) (zero-div (2 ^ from)) ∙ zero-mod (2 ^ count)

-- a table, row by row
pub table_at : (from count : ℕ) (rows : List ℕ) (i : ℕ) → get_or (map (cells from count) rows) i 0 ≡ cells from count (get_or rows i 0)
table_at from count = get_or-map (cells from count) (cells-zero from count)

-- rows whose cells are those of a table
cut-rows : (from count m : ℕ) (rows table : List ℕ) → length rows ≡ m → length table ≡ m
    → ((i : ℕ) → i < m → cells from count (get_or rows i 0) ≡ get_or table i 0) → map (cells from count) rows ≡ table
cut-rows from count m rows table e h f =
    ext_get_or 0 (map (cells from count) rows) table (length-map rows (cells from count) ∙ e ∙ sym h)
    (λ i l. table_at from count rows i ∙ f i (omega (arith, length-map rows (cells from count))))

-- ---- a sheet that has the shape with some tables has it with those that stand in it, and no others

module _ (s : Sheet) (P R Q : List ℕ) (h : Systematic s P R Q) where
  abbrev k : ℕ
  k = s.k

  abbrev l : ℕ
  l = s.l

  row-G1 : (i : ℕ) → i < k → get_or (G1 s) i 0 ≡ row_g1 k l P i
  row-G1 i q = ap (λ (gs : List ℕ). get_or gs i 0) h.is-G1 ∙ row-of-G1 k l P i q

  row-G0 : (j : ℕ) → j < l → get_or (G0 s) j 0 ≡ row_g0 k l R Q j
  row-G0 j q = ap (λ (gs : List ℕ). get_or gs j 0) h.is-G0 ∙ row-of-G0 k l R Q h.fits.rows-R j q

  count-G1 : length (G1 s) ≡ k
  count-G1 = ap length h.is-G1 ∙ length-G1 k l P

  count-G0 : length (G0 s) ≡ l
  count-G0 = ap length h.is-G0 ∙ length-G0 k l R Q h.fits.rows-R

  pub only-P : table_p s ≡ P
  only-P =
      cut-rows (k + l) (r s) k (G1 s) P count-G1 h.fits.rows-P
      (λ i q. ap (cells (k + l) (r s)) (row-G1 i q) ∙ joined-last k l (2 ^ i) 0 (get_or P i 0) (pow-lt q) (pow_pos l) (r s) (h.fits.columns-P i q))

  pub only-R : table_r s ≡ R
  only-R =
      cut-rows 0 k l (G0 s) R count-G0 h.fits.rows-R
      (λ j q. ap (cells 0 k) (row-G0 j q) ∙ joined-first k l (get_or R j 0) (2 ^ j) (get_or Q j 0) (h.fits.columns-R j q))

  pub only-Q : table_q s ≡ Q
  only-Q =
      cut-rows (k + l) (r s) l (G0 s) Q count-G0 h.fits.rows-Q
      (λ j q. ap (cells (k + l) (r s)) (row-G0 j q)
      ∙ joined-last k l (get_or R j 0) (2 ^ j) (get_or Q j 0) (h.fits.columns-R j q) (pow-lt q) (r s) (h.fits.columns-Q j q))

  pub has-shape : systematic s ≡ true
  has-shape =
      ap₂ ◌&&◌ (alike_same (h.is-G1 ∙ ap (built_g1 k l) (sym only-P))) (alike_same (h.is-G0 ∙ ap₂ (built_g0 k l) (sym only-R) (sym only-Q)))

-- ---- a sound sheet that passes the test has the shape, with the tables that stand in it

module _ (s : Sheet) (ok : Sound s) where
  tables-fit : Fits s.n s.k s.l (table_p s) (table_r s) (table_q s)
  tables-fit = record {
    some-cells = ok.shape.some-cells;
    few-cells = ok.shape.few-cells;
    some-message = ok.shape.some-message;
    space = ok.shape.room;
    rows-P = length-map (G1 s) (cells (s.k + s.l) (r s)) ∙ ok.count-G1;
    rows-R = length-map (G0 s) (cells 0 s.k) ∙ ok.count-G0;
    rows-Q = length-map (G0 s) (cells (s.k + s.l) (r s)) ∙ ok.count-G0;
    columns-P = λ i h. within (s.k + s.l) (r s) (G1 s) i;
    columns-R = λ j h. within 0 s.k (G0 s) j;
    columns-Q = λ j h. within (s.k + s.l) (r s) (G0 s) j;
  }
    where
      within : (from count : ℕ) (rows : List ℕ) (i : ℕ) → get_or (map (cells from count) rows) i 0 < 2 ^ count
      within from count rows i =
          subst (λ (x : ℕ). x < 2 ^ count) (sym (table_at from count rows i)) (mod-lt (get_or rows i 0 / 2 ^ from) (pow_pos count))

  pub tables-of : systematic s ≡ true → Systematic s (table_p s) (table_r s) (table_q s)
  tables-of e =
      let k = s.k in
      let l = s.l in
      let p = (and-eq-true_iff (alike (G1 s) (built_g1 k l (table_p s))) (alike (G0 s) (built_g0 k l (table_r s) (table_q s)))).0 e in
      record {
        fits = tables-fit;
        is-G1 = alike-rows (G1 s) (built_g1 k l (table_p s)) (ok.count-G1 ∙ sym (length-G1 k l (table_p s))) p.0;
        is-G0 = alike-rows (G0 s) (built_g0 k l (table_r s) (table_q s)) (ok.count-G0 ∙ sym (length-G0 k l (table_r s) (table_q s) tables-fit.rows-R)) p.1;
      }
