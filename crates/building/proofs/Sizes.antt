-- Tables of the right sizes: from what was judged of sizes and stray bits, and what they say of the sheet's shape.
-- For the call's proof, and for what the call answers. Assumes nothing.
use mathlib.Core.Path.{◌≡◌, sym, ap, ◌∙◌}
use mathlib.Core.Bool.{Bool, true}
use mathlib.Core.List.{List}
use Prim.Native.Nat.{ℕ, ◌+◌, ◌-◌, ◌^◌, ◌<◌}
use native.Mathlib.Omega.{arith}
use borrow.Author.Tests.{leb-false, le-leb, eq-eqb}
use lib.ListN.{length, get_or}
use Rattle.paper.specs.First.{nowhere, first}
use Rattle.paper.specs.Promised.{Fits}
use Rattle.paper.specs.Sheet.{sheet, shaped}
use Rattle.paper.specs.Tables.{stray_in}
use Rattle.paper.specs.Words.{width}
use Rattle.words.specs.Places.{as_first}
use Rattle.std.proofs.Common.{Option, Some}
use Rattle.words.proofs.Firsts.{first-all, first-at}
use Rattle.sheet.specs.Sound.{Shaped}
use Rattle.blocks.specs.Counts.{Counted}

-- a place that was found is one of the rows
pub found_lt : {p : Option ℕ} (test : ℕ → Bool) (n : ℕ) {i : ℕ} → as_first p ≡ first n test → p ≡ Some i → i < n
found_lt test n {i} e h = (first-at test n i (sym e ∙ ap as_first h)).0

-- no row with stray bits: each has as many columns as the table
low_rows : (m : ℕ) (rows : List ℕ) → first (length rows) (stray_in m rows) ≡ nowhere → (count : ℕ) → length rows ≡ count
    → (i : ℕ) → i < count → get_or rows i 0 < 2 ^ m
low_rows m rows e count q i l = leb-false (2 ^ m) (get_or rows i 0) (first-all (stray_in m rows) (length rows) i e (omega (arith, q)))

module _ (n k l : ℕ) (P R Q room : List ℕ) where
  -- right numbers of rows, and no stray bits: the tables fit
  pub fits-of : Shaped (sheet n k l room) → Counted k l (length P) (length R) (length Q)
      → first (length P) (stray_in (n - (k + l)) P) ≡ nowhere → first (length R) (stray_in k R) ≡ nowhere
      → first (length Q) (stray_in (n - (k + l)) Q) ≡ nowhere → Fits n k l P R Q
  fits-of z c p r q = record {
    some-cells = z.some-cells;
    few-cells = z.few-cells;
    some-message = z.some-message;
    space = z.room;
    rows-P = c.rows-P;
    rows-R = c.rows-R;
    rows-Q = c.rows-Q;
    columns-P = low_rows (n - (k + l)) P p k c.rows-P;
    columns-R = low_rows k R r l c.rows-R;
    columns-Q = low_rows (n - (k + l)) Q q l c.rows-Q;
  }

  -- n, k and l of tables that fit are those of a sheet with n + k rows
  pub fits-shaped : Fits n k l P R Q → length room ≡ n + k → shaped (sheet n k l room) ≡ true
  fits-shaped f e = simp (
    le-leb 1 n f.some-cells,
    le-leb n width f.few-cells,
    le-leb 1 k f.some-message,
    le-leb (k + l) n f.space,
    eq-eqb (length room) (n + k) e,
  )
