-- The code's test of the shape is the definition's: G1 is [I 0 P] if its first k + l cells are [I 0], and G0 is [R I Q] if its l cells after k are I.
-- For the call's proof. Assumes nothing.
use mathlib.Core.Path.{◌≡◌, sym, ap, ap₂, ◌∙◌, subst}
use mathlib.Core.Bool.{not, ◌&&◌}
use mathlib.Core.List.{List}
use Prim.Native.Nat.{ℕ, ◌+◌, ◌*◌, ◌/◌, ◌^◌, ◌<◌}
use native.Mathlib.Nat.{mod-lt, zero-mul, zero-add}
use native.Mathlib.Omega.{arith}
use lib.Dec.{eqb}
use lib.ListN.{length, get_or, length-map}
use lib.Pow.{pow_pos, pow-lt, shr_mod}
use Rattle.paper.specs.First.{First, is_somewhere}
use Rattle.paper.specs.Sheet.{Sheet, r, G1, G0}
use Rattle.paper.specs.Tables.{joined, cells, built_g1, built_g0, table_p, table_r, table_q, alike, systematic}
use Rattle.words.proofs.Firsts.{first-same}
use Rattle.elimination.proofs.Span.{Low}
use Rattle.sheet.specs.Sound.{Sound}
use Rattle.sheet.proofs.Tests.{eqb_same}
use Rattle.sheet.proofs.Verdicts.{all-at}
use Rattle.blocks.proofs.Blocks.{joined-middle, joined-front, front-joined, joined_back}
use Rattle.building.proofs.Rows.{row-of-G1, row-of-G0}
use Rattle.tables.specs.Identities.{identity_at}
use Rattle.tables.proofs.Back.{table_at}

-- rows that are what they should be, tested otherwise
alike-by : (rows wanted : List ℕ) (from count : ℕ)
    → ((i : ℕ) → i < length rows → eqb (get_or rows i 0) (get_or wanted i 0) ≡ eqb (cells from count (get_or rows i 0)) (2 ^ i))
    → identity_at from count rows ≡ alike rows wanted
alike-by rows wanted from count h =
    ap (λ (f : First). not (is_somewhere f)) (first-same _ _ (length rows) (λ i l. ap not (sym (h i l))))

module _ (s : Sheet) (ok : Sound s) where
  abbrev k : ℕ
  k = s.k

  abbrev l : ℕ
  l = s.l

  -- the last cells of a row: none are above them
  last-cells : (g : ℕ) → g < 2 ^ s.n → cells (k + l) (r s) g ≡ g / 2 ^ (k + l)
  last-cells g h =
      let e : s.n ≡ r s + (k + l) = omega (arith, ok.shape.room) in
      shr_mod (r s) (k + l) (subst (λ (m : ℕ). g < 2 ^ m) e h)

  shape-G1 : identity_at 0 (k + l) (G1 s) ≡ alike (G1 s) (built_g1 k l (table_p s))
  shape-G1 =
      alike-by (G1 s) (built_g1 k l (table_p s)) 0 (k + l)
      (λ i h. let q : i < k = omega (arith, ok.count-G1) in
      ap (eqb (get_or (G1 s) i 0)) (row i q) ∙ same i q)
    where
      -- what row i should be
      row : (i : ℕ) → i < k → get_or (built_g1 k l (table_p s)) i 0 ≡ joined k l (2 ^ i) 0 (get_or (G1 s) i 0 / 2 ^ (k + l))
      row i q =
          row-of-G1 k l (table_p s) i q
          ∙ ap (joined k l (2 ^ i) 0)
          (table_at (k + l) (r s) (G1 s) i ∙ last-cells (get_or (G1 s) i 0) (all-at (Low s.n) (G1 s) ok.low-G1 i (omega (arith, ok.count-G1))))

      front : (i : ℕ) → 0 * 2 ^ k + 2 ^ i ≡ 2 ^ i
      front i = ap (λ (x : ℕ). x + 2 ^ i) (zero-mul (2 ^ k)) ∙ zero-add (2 ^ i)

      same : (i : ℕ) → i < k
          → eqb (get_or (G1 s) i 0) (joined k l (2 ^ i) 0 (get_or (G1 s) i 0 / 2 ^ (k + l))) ≡ eqb (cells 0 (k + l) (get_or (G1 s) i 0)) (2 ^ i)
      same i q =
          eqb_same _ _ _ _
          (λ e. ap (cells 0 (k + l)) e ∙ joined-front k l (2 ^ i) 0 (get_or (G1 s) i 0 / 2 ^ (k + l)) (pow-lt q) (pow_pos l) ∙ front i)
          (λ e. front-joined k l (get_or (G1 s) i 0) (2 ^ i) 0 (e ∙ sym (front i)))

  shape-G0 : identity_at k l (G0 s) ≡ alike (G0 s) (built_g0 k l (table_r s) (table_q s))
  shape-G0 =
      alike-by (G0 s) (built_g0 k l (table_r s) (table_q s)) k l
      (λ j h. let q : j < l = omega (arith, ok.count-G0) in
      ap (eqb (get_or (G0 s) j 0)) (row j q) ∙ same j q)
    where
      count-R : length (table_r s) ≡ l
      count-R = length-map (G0 s) (cells 0 k) ∙ ok.count-G0

      row : (j : ℕ) → j < l → get_or (built_g0 k l (table_r s) (table_q s)) j 0
          ≡ joined k l (cells 0 k (get_or (G0 s) j 0)) (2 ^ j) (get_or (G0 s) j 0 / 2 ^ (k + l))
      row j q =
          row-of-G0 k l (table_r s) (table_q s) count-R j q
          ∙ ap₂ (λ (a c : ℕ). joined k l a (2 ^ j) c) (table_at 0 k (G0 s) j)
          (table_at (k + l) (r s) (G0 s) j ∙ last-cells (get_or (G0 s) j 0) (all-at (Low s.n) (G0 s) ok.low-G0 j (omega (arith, ok.count-G0))))

      same : (j : ℕ) → j < l
          → eqb (get_or (G0 s) j 0) (joined k l (cells 0 k (get_or (G0 s) j 0)) (2 ^ j) (get_or (G0 s) j 0 / 2 ^ (k + l)))
          ≡ eqb (cells k l (get_or (G0 s) j 0)) (2 ^ j)
      same j q =
          let g = get_or (G0 s) j 0 in
          eqb_same _ _ _ _
          (λ e. ap (cells k l) e ∙ joined-middle k l (cells 0 k g) (2 ^ j) (g / 2 ^ (k + l)) (mod-lt (g / 2 ^ 0) (pow_pos k)) (pow-lt q))
          (λ e. joined_back k l g ∙ ap (λ (b : ℕ). joined k l (cells 0 k g) b (g / 2 ^ (k + l))) e)

  pub same_shape : (identity_at 0 (k + l) (G1 s) && identity_at k l (G0 s)) ≡ systematic s
  same_shape = ap₂ ◌&&◌ shape-G1 shape-G0
