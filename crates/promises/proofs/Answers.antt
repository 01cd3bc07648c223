-- What the calls answer on an admitted sheet when the arguments are good, and what an answer says of the arguments.
-- Every other theorem of the calls starts from these. Assumes nothing.
use mathlib.Core.Path.{◌≡◌, refl, ◌∙◌}
use mathlib.Core.Bool.{Bool, true, false}
use mathlib.Core.Logic.Iff
use mathlib.Core.Logic.{◌↔◌}
use Prim.Native.Nat.{ℕ, ◌^◌, ◌≤◌, ◌<◌}
use borrow.Author.Tests.{ltb-true, lt-ltb, leb-true, le-leb}
use lib.Dec.{leb, ltb}
use Rattle.paper.specs.First.{nowhere, first}
use Rattle.paper.specs.Words.{width}
use Rattle.paper.specs.Refusals.{Told}
use Rattle.paper.specs.Sheet.{Sheet, Admitted}
use Rattle.paper.specs.Writing.{misplaced, fitting, chosen, writes_admitted, writes}
use Rattle.paper.specs.Reading.{most_radius, stray_cell, nearest, heard, reads_admitted, reads}
use Rattle.paper.specs.Plate.{most_cap, search_d0, search_d1, plate_d0, plate_d1, capped, measures_admitted_d0, measures_admitted_d1, measures_d0, measures_d1}
use Rattle.paper.specs.Promised.{Stuck}
use Rattle.words.proofs.Cells.{cell-above}
use Rattle.words.proofs.Firsts.{none_below}
use Rattle.rules.proofs.Rules.{is_refusal, of_sheet, past, past-at}
use Rattle.rules.proofs.Chains.{then-2, then-3}
use Rattle.sheet.proofs.Verdicts.{admitted-next, past-judged}
use Rattle.writing.proofs.Breaches.{stuck-passes}
use Rattle.measuring.proofs.Caps.{capped-true}

-- ---- good arguments

-- a word over n cells passes rule 10
pub word-passes : (s : Sheet) (y : ℕ) → y < 2 ^ s.n → first width (stray_cell s.n y) ≡ nowhere
word-passes s y h = none_below _ width (λ i l. go i (leb s.n i) refl)
  where
    go : (i : ℕ) (b : Bool) → leb s.n i ≡ b → stray_cell s.n y i ≡ false
    go i true e = rw (e, cell-above h i (leb-true s.n i e))
    go i false e = rw e

-- ---- the calls, past all their rules

module _ (s : Sheet) where
  -- what is told of a write by none of the rules 1 to 8
  pub write-told : (w stuck levels : ℕ) (t : Told) → of_sheet t ≡ false → is_refusal 7 t ≡ false → is_refusal 8 t ≡ false
      → (writes s w stuck levels ≡ t)
      ↔ (Admitted s × (w < 2 ^ s.k) × (first width (misplaced s.n stuck levels) ≡ nowhere)
      × (chosen s w (fitting s w stuck levels) ≡ t))
  unfolding writes writes_admitted
  write-told w stuck levels t h h7 h8 =
      then-3 (past-judged s _ t h) (past 7 _ (ltb w (2 ^ s.k)) (ltb-true w (2 ^ s.k), lt-ltb w (2 ^ s.k)) t h7)
      (past-at 8 _ (first width (misplaced s.n stuck levels)) 0 t h8) Iff.rfl

  -- what is told of a read by none of the rules 1 to 6, 10 and 11
  pub read_told : (y radius : ℕ) (t : Told) → of_sheet t ≡ false → is_refusal 10 t ≡ false → is_refusal 11 t ≡ false
      → (reads s y radius ≡ t)
      ↔ (Admitted s × (first width (stray_cell s.n y) ≡ nowhere) × (radius ≤ most_radius) × (heard s y (nearest s y radius) ≡ t))
  unfolding reads reads_admitted
  read_told y radius t h h10 h11 =
      then-3 (past-judged s _ t h) (past-at 10 _ (first width (stray_cell s.n y)) 0 t h10)
      (past 11 _ (leb radius most_radius) (leb-true radius most_radius, le-leb radius most_radius) t h11) Iff.rfl

  -- what is told of a measurement by none of the rules 1 to 6 and 11
  pub measure-d0-told : (cap : ℕ) (t : Told) → of_sheet t ≡ false → is_refusal 11 t ≡ false
      → (measures_d0 s cap ≡ t) ↔ (Admitted s × ((1 ≤ cap) × (cap ≤ most_cap)) × (plate_d0 (search_d0 s cap) ≡ t))
  unfolding measures_d0 measures_admitted_d0
  measure-d0-told cap t h h11 = then-2 (past-judged s _ t h) (past 11 _ (capped cap) (capped-true cap) t h11) Iff.rfl

  pub measure-d1-told : (cap : ℕ) (t : Told) → of_sheet t ≡ false → is_refusal 11 t ≡ false
      → (measures_d1 s cap ≡ t) ↔ (Admitted s × ((1 ≤ cap) × (cap ≤ most_cap)) × (plate_d1 cap (search_d1 s cap) ≡ t))
  unfolding measures_d1 measures_admitted_d1
  measure-d1-told cap t h h11 = then-2 (past-judged s _ t h) (past 11 _ (capped cap) (capped-true cap) t h11) Iff.rfl

-- ---- what the calls answer on an admitted sheet when the arguments are good

module _ (s : Sheet) (ok : Admitted s) where
  -- "The answer is the fitting word of message w whose d .. is the smallest number"
  pub writes-on : (w stuck levels : ℕ) → w < 2 ^ s.k → Stuck s stuck levels
      → writes s w stuck levels ≡ chosen s w (fitting s w stuck levels)
  unfolding writes writes_admitted
  writes-on w stuck levels l h = admitted-next s ok _ ∙ rw (lt-ltb w (2 ^ s.k) l, stuck-passes s stuck levels h)

  -- "Reading y at radius t takes the first z in the list"
  pub reads_on : (y radius : ℕ) → y < 2 ^ s.n → radius ≤ most_radius → reads s y radius ≡ heard s y (nearest s y radius)
  unfolding reads reads_admitted
  reads_on y radius l h = admitted-next s ok _ ∙ rw (word-passes s y l, le-leb radius most_radius h)

  -- "A measurement takes a cap of 1 to 8"
  pub measures_d0-on : (cap : ℕ) → 1 ≤ cap → cap ≤ most_cap → measures_d0 s cap ≡ plate_d0 (search_d0 s cap)
  unfolding measures_d0 measures_admitted_d0
  measures_d0-on cap l h = admitted-next s ok _ ∙ rw ((capped-true cap).1 (l, h))

  pub measures_d1-on : (cap : ℕ) → 1 ≤ cap → cap ≤ most_cap → measures_d1 s cap ≡ plate_d1 cap (search_d1 s cap)
  unfolding measures_d1 measures_admitted_d1
  measures_d1-on cap l h = admitted-next s ok _ ∙ rw ((capped-true cap).1 (l, h))
