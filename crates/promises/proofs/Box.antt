-- From the measured number to the box, in one step each: what holds of d0 and d1 as defined holds of the numbers that a measurement answers.
-- So a plate that shows them is true. "More than the cap" has the same in Demand3. Assumes nothing.
use mathlib.Core.Path.{◌≡◌, refl}
use mathlib.Core.List.{[], ◌∷◌}
use Prim.Native.Nat.{ℕ, ◌+◌, ◌*◌, ◌/◌, ◌^◌, ◌≤◌, ◌<◌}
use Rattle.paper.specs.Words.{weight, products, ◌⊕◌}
use Rattle.paper.specs.Refusals.{answer, refusal}
use Rattle.paper.specs.Sheet.{Sheet, M, Admitted, Codeword}
use Rattle.paper.specs.Writing.{writes}
use Rattle.paper.specs.Reading.{most_radius, reads}
use Rattle.paper.specs.Plate.{D0, D1, measures_d0, measures_d1}
use Rattle.paper.specs.Promised.{Stuck}
use Rattle.promises.proofs.Answers.{measure-d0-told, measure-d1-told}
use Rattle.promises.proofs.Plate.{answered-d0, answered-d1}
use Rattle.promises.proofs.Demand3.{d0-fits, d0-tight, d1-reads-back, d1-apart, d1-tight, misread}

-- d was measured as d0
module _ (s : Sheet) (cap d tried : ℕ) (e : measures_d0 s cap ≡ answer (d ∷ tried ∷ [])) where
  -- only an admitted sheet is measured, and what is measured is the defined distance
  pub measured-admitted-d0 : Admitted s
  measured-admitted-d0 = ((measure-d0-told s cap (answer (d ∷ tried ∷ [])) refl refl).0 e).0

  pub measured-is-d0 : D0 s d
  measured-is-d0 = (answered-d0 s cap d tried e).distance

  -- "fewer than d0 stuck cells at any levels, no message refused"
  pub measured-fits : (w stuck levels : ℕ) → w < 2 ^ s.k → Stuck s stuck levels → weight stuck < d
      → (x : ℕ) × (choice : ℕ) × (writes s w stuck levels ≡ answer (x ∷ choice ∷ []))
  measured-fits w stuck levels l good = d0-fits s measured-admitted-d0 w l stuck levels good d measured-is-d0

  -- "for every message some d0 stuck cells with some levels are refused"
  pub measured-refuses : (w : ℕ) → w < 2 ^ s.k
      → (stuck : ℕ) × (levels : ℕ) × Stuck s stuck levels × (weight stuck ≡ d) × (writes s w stuck levels ≡ refusal 9 [])
  measured-refuses w l = d0-tight s measured-admitted-d0 w l d measured-is-d0

-- d was measured as d1
module _ (s : Sheet) (cap d tried radius : ℕ) (e : measures_d1 s cap ≡ answer (d ∷ tried ∷ radius ∷ [])) where
  pub measured-admitted-d1 : Admitted s
  measured-admitted-d1 = ((measure-d1-told s cap (answer (d ∷ tried ∷ radius ∷ [])) refl refl).0 e).0

  pub measured-is-d1 : D1 s d
  measured-is-d1 = (answered-d1 s cap d tried radius e).0.distance

  -- "what was written, then disturbed in at most t cells, reads back at radius t, for t up to 4 with 2t below d1"
  pub measured-reads-back : (w stuck levels x choice : ℕ) → writes s w stuck levels ≡ answer (x ∷ choice ∷ [])
      → (noise t : ℕ) → noise < 2 ^ s.n → weight noise ≤ t → t ≤ most_radius → 2 * t < d
      → (z : ℕ) × (tried : ℕ) × (reads s (x ⊕ noise) t ≡ answer (w ∷ z ∷ tried ∷ []))
  measured-reads-back w stuck levels x choice written noise t low few most =
      d1-reads-back s measured-admitted-d1 w stuck levels x choice written noise t low few most d measured-is-d1

  -- "no two codewords of different messages differ in fewer than d1 cells"
  pub measured-apart : (x y : ℕ) → Codeword s x → Codeword s y → (products (M s) x ≡ products (M s) y → ⊥) → d ≤ weight (x ⊕ y)
  measured-apart = d1-apart s d measured-is-d1

  -- "and some two differ in exactly d1"
  pub measured-two : (x : ℕ) × (y : ℕ) × Codeword s x × Codeword s y × (products (M s) x ≡ products (M s) y → ⊥) × (weight (x ⊕ y) ≡ d)
  measured-two = d1-tight s d measured-is-d1

  -- "every message's word, written with nothing stuck, can be disturbed in half of d1 cells, rounded up, so that no radius .. reads that message back"
  pub measured-misread : (w : ℕ) → w < 2 ^ s.k
      → (x : ℕ) × (choice : ℕ) × (writes s w 0 0 ≡ answer (x ∷ choice ∷ []))
      × (noise : ℕ) × (noise < 2 ^ s.n) × (weight noise ≡ (d + 1) / 2)
      × ((t m z tried : ℕ) → reads s (x ⊕ noise) t ≡ answer (m ∷ z ∷ tried ∷ []) → m ≡ w → ⊥)
  measured-misread = misread s d measured-is-d1 measured-admitted-d1
