-- Worked calls at 64 cells, and n 65, for request 5: a table of calls and what they tell, and one claim over its rows, of the definitions. Assumes nothing.
use mathlib.Core.Path.{◌≡◌, refl, sym, ap, ap₂, ◌∙◌}
use mathlib.Core.Logic.{⊎_elim}
use mathlib.Core.List.{List, [], ◌∷◌, ◌++◌, map}
use Prim.Native.Nat.{ℕ, zero, suc, ◌+◌, ◌-◌, ◌%◌, ◌^◌, ◌<◌}
use native.Mathlib.Nat.{pow-suc}
use native.Mathlib.Omega.{arith}
use lib.Count.{ones, ones-ones}
use lib.ListN.{length}
use lib.Pow.{pow_pos}
use Rattle.paper.specs.First.{first}
use Rattle.paper.specs.Listing.{listed, weights, search}
use Rattle.paper.specs.Plate.{D0, plate_d0, plate_d1, measures_d0}
use Rattle.paper.specs.Refusals.{Told, answer, more, refusal}
use Rattle.paper.specs.Sheet.{Sheet, sheet, G0, judged, Admitted}
use Rattle.paper.specs.Tables.{each, column, built, builds_sized, builds}
use Rattle.paper.specs.Words.{cell, product, products, sum, ◌⊕◌}
use Rattle.paper.specs.Writing.{writes_admitted, writes}
use Rattle.words.proofs.Cells.{cell-lt, cell-of-0, cell-cases, no_cell}
use Rattle.words.proofs.Products.{⊕-product, product-comm, product-unit, cell-products}
use Rattle.words.proofs.Sums.{⊕-above, ones-all}
use Rattle.listing.proofs.Listed.{length-zero, weights-cons}
use Rattle.listing.proofs.Lengths.{counts, next, line, total, list_length}
use Rattle.sheet.proofs.Verdicts.{admitted-next}
use Rattle.blocks.proofs.Lists.{get_or-each}
use Rattle.promises.proofs.Answers.{measures_d0-on, measures_d1-on}
use Rattle.promises.proofs.Bench.{write, read, d0, d1, outcome, Case, ◌gives◌}
use Rattle.promises.proofs.Computing.{counted, quick, quick-products, quick-d0, quick-d1, quick-reads}
use Rattle.promises.proofs.Plate.{more-d0, measured-d0}
use Rattle.promises.proofs.Tables.{build-admitted}

-- ---- the sheet

-- the tower's rows: n 64, k 62, l 1, r 1; one row of G0 and one of H, both all ones
abbrev rows : List ℕ
rows = each 62 (λ i. 2 ^ i + 2 ^ 63) ++ (2 ^ 64 - 1) ∷ (2 ^ 64 - 1) ∷ each 62 (λ i. 2 ^ i + 2 ^ 62)

-- "a sheet with n 64 joins them"
abbrev pub tower : Sheet
tower = sheet 64 62 1 rows

-- it is built of tables that are all ones (request 4), and so admitted
tower-admitted : Admitted tower
unfolding builds builds_sized built each column first sum ◌⊕◌
tower-admitted = build-admitted 64 62 1 (each 62 (λ i. 1)) ((2 ^ 62 - 1) ∷ []) (1 ∷ []) (each 126 (λ i. 0)) refl

-- ---- "The number tried can pass 2^32 and must stay exact"

-- the attic's sheet over 64 cells: n 64, k 1, l 63, r 0; each row of G0 has cell 0 and one other
abbrev pub loft : Sheet
loft = sheet 64 1 63 (1 ∷ each 63 (λ j. 1 + 2 ^ suc j) ++ (2 ^ 64 - 1) ∷ [])

-- built of tables too
loft-admitted : Admitted loft
unfolding builds builds_sized built each column first sum ◌⊕◌
loft-admitted = build-admitted 64 1 63 (0 ∷ []) (each 63 (λ j. 1)) (each 63 (λ j. 0)) (each 65 (λ i. 0)) refl

-- the length of the list from weight 1 to 8 over 64 cells
longest : length (weights 64 1 8) ≡ 5130659560
unfolding counts next line total listed
longest =
    let whole : length (weights 64 0 9) ≡ 5130659561 = list_length 64 8 in
    omega (arith, weights-cons 64 0 8, length-zero 64, whole)

-- a word with product 0 with every row of G0 has everywhere what it has at cell 0
same-cells : (x : ℕ) → products (G0 loft) x ≡ 0 → (i : ℕ) → i < 64 → cell x i ≡ cell x 0
unfolding each
same-cells x h zero l = refl
same-cells x h (suc j) l =
    let clear = sym (cell-products (G0 loft) x j) ∙ ap (λ (p : ℕ). cell p j) h ∙ cell-of-0 j in
    let row : product (1 + 2 ^ suc j) x ≡ 0 = ap (λ (g : ℕ). product g x) (sym (get_or-each 63 (λ i. 1 + 2 ^ suc i) j (omega arith))) ∙ clear in
    let both : product (1 + 2 ^ suc j) x ≡ (cell x (suc j) + cell x 0) % 2 =
    ap (λ (g : ℕ). product g x) (sym (⊕-above (suc j) 1 (omega (arith, pow-suc 2 j, pow_pos j)))) ∙ ⊕-product (2 ^ suc j) 1 x
    ∙ ap₂ (λ (a b : ℕ). (a + b) % 2) (product-comm (2 ^ suc j) x ∙ product-unit x (suc j)) (product-comm 1 x ∙ product-unit x 0) in
    omega (arith, row, both, cell-lt x 0, cell-lt x (suc j))

-- so d0 is 64: the word with every cell is the only one
loft-d0 : D0 loft 64
unfolding quick counted each
loft-d0 = record {
  word = 2 ^ 64 - 1;
  has = record { cells = omega arith; nonzero = omega arith; clear = quick-products (G0 loft) (2 ^ 64 - 1) };
  weighs = ones-ones 64;
  none-lighter = λ x m. ⊎_elim (λ e. absurd (omega (arith, m.nonzero, no_cell 64 m.cells (λ i l. same-cells x m.clear i l ∙ e))))
      (λ e. omega (arith, ones-all 64 x m.cells (λ i l. same-cells x m.clear i l ∙ e))) (cell-cases x 0);
}

-- and a measurement up to the largest cap tries the whole list
loft-tried : measures_d0 loft 8 ≡ more (5130659560 ∷ [])
loft-tried =
    let m = (measured-d0 loft 8 loft-admitted (omega arith) (omega arith) 64 loft-d0).1 (omega arith) in
    m.1 ∙ ap (λ (t : ℕ). more (t ∷ [])) ((more-d0 loft 8 m.0 m.1).whole ∙ longest)

-- the calls: a write with nothing stuck and with cell 63 stuck at 0, a message too large, a read that puts cell 0 right and one with nothing to put right,
-- the two distances, "more than the cap" on both sheets; and "n 65 is refusal 1"
pub cases : List Case
cases =
    write tower (2 ^ 61) 0 0 gives answer (11529215046068469760 ∷ 0 ∷ [])
    ∷ write tower (2 ^ 61) (2 ^ 63) 0 gives answer (6917529027641081855 ∷ 1 ∷ [])
    ∷ write tower (2 ^ 62) 0 0 gives refusal 7 []
    ∷ read tower 11529215046068469761 1 gives answer (2 ^ 61 ∷ 1 ∷ 2 ∷ [])
    ∷ read tower 6917529027641081855 0 gives answer (2 ^ 61 ∷ 0 ∷ 1 ∷ [])
    ∷ d0 tower 8 gives answer (2 ∷ 65 ∷ [])
    ∷ d1 tower 8 gives answer (2 ∷ 65 ∷ 0 ∷ [])
    ∷ d0 tower 1 gives more (64 ∷ [])
    ∷ d0 loft 8 gives more (5130659560 ∷ [])
    ∷ d0 (sheet 65 62 1 (0 ∷ rows)) 8 gives refusal 1 []
    ∷ []

-- every row of the table holds
pub wide-bench : map (λ (row : Case). outcome row.call) cases ≡ map (λ (row : Case). row.told) cases
unfolding outcome ◌gives◌ cases writes writes_admitted judged measures_d0 first weights listed search quick counted each sum ◌⊕◌ ones
wide-bench =
    row (admitted-next tower tower-admitted (writes_admitted tower (2 ^ 61) 0 0))
    (row (admitted-next tower tower-admitted (writes_admitted tower (2 ^ 61) (2 ^ 63) 0))
    (row (admitted-next tower tower-admitted (writes_admitted tower (2 ^ 62) 0 0))
    (row (quick-reads tower tower-admitted 11529215046068469761 1 1 2 (omega arith) (omega arith) refl)
    (row (quick-reads tower tower-admitted 6917529027641081855 0 0 1 (omega arith) (omega arith) refl)
    (row (measures_d0-on tower tower-admitted 8 (omega arith) (omega arith) ∙ ap plate_d0 (quick-d0 tower 8))
    (row (measures_d1-on tower tower-admitted 8 (omega arith) (omega arith) ∙ ap (plate_d1 8) (quick-d1 tower 8))
    (row (measures_d0-on tower tower-admitted 1 (omega arith) (omega arith) ∙ ap plate_d0 (quick-d0 tower 1)) (row loft-tried (row refl refl)))))))))
  where
    row : {t u : Told} {ts us : List Told} → t ≡ u → ts ≡ us → t ∷ ts ≡ u ∷ us
    row e f = ap₂ (λ (x : Told) (xs : List Told). x ∷ xs) e f
