-- Request 6: the number that opening a page gives is d1, or 9 where d1 is more than 8; so it is never more than d1, and a read by it that answers gives no wrong village.
-- By the plate's measurement and demand 3 on pages. Assumes nothing.
use mathlib.Core.Path.{◌≡◌, refl, sym, ap, ◌∙◌}
use mathlib.Core.Logic.{◌⊎◌, inl, inr, ◌↔◌}
use mathlib.Core.List.{List, [], ◌∷◌}
use Prim.Native.Nat.{ℕ, ◌*◌, ◌^◌, ◌≤◌, ◌<◌}
use native.Mathlib.Decide.{dec_le}
use native.Mathlib.Omega.{arith}
use lib.ListN.{length, get_or}
use Rattle.paper.specs.Words.{weight, ◌⊕◌}
use Rattle.paper.specs.Refusals.{answer, refusal}
use Rattle.paper.specs.Sheet.{Sheet, judged, admits, Admitted}
use Rattle.paper.specs.Writing.{writes}
use Rattle.paper.specs.Reading.{most_radius, reads}
use Rattle.paper.specs.Plate.{D1, most_cap, measures_admitted_d1, measures_d1}
use Rattle.paper.specs.Page.{most_slots, most_number, plate_number, opens, page_writes, page_reads}
use Rattle.paper.specs.Promised.{Printed, held}
use Rattle.paper.specs.declared.StuckCell.{StuckCell}
use Rattle.rules.proofs.Rules.{not-told}
use Rattle.rules.proofs.Stages.{Stage, passes, refuses}
use Rattle.sheet.proofs.Verdicts.{judged-stage}
use Rattle.promises.proofs.Plate.{d1-exists, d1-some, measured-d1}
use Rattle.promises.proofs.Demand3.{misread}
use Rattle.promises.proofs.Printed.{premise-met, premise-of-d1}
use Rattle.promises.proofs.PageDemands.{page-reads-back, page-reads-right}

-- ---- the number

module _ (s : Sheet) where
  module _ (ok : Admitted s) (d1 : ℕ) (D : D1 s d1) where
    -- "d1 as 1 to 8"
    pub opens-d1 : d1 ≤ most_cap → opens s ≡ answer (d1 ∷ [])
    unfolding opens
    opens-d1 l = ap plate_number ((measured-d1 s most_cap ok (omega arith) (omega arith) d1 D).0 l).1

    -- "or 9 for "more than 8""
    pub opens-more : most_cap < d1 → opens s ≡ answer (most_number ∷ [])
    unfolding opens
    opens-more l = ap plate_number ((measured-d1 s most_cap ok (omega arith) (omega arith) d1 D).1 l).1

  -- every admitted sheet has a number
  pub open-exists : Admitted s → (number : ℕ) × (opens s ≡ answer (number ∷ []))
  open-exists ok = go (dec_le (d1-exists s ok).0 most_cap)
    where
      go : Dec ((d1-exists s ok).0 ≤ most_cap) → (number : ℕ) × (opens s ≡ answer (number ∷ []))
      go (yes l) = (_, opens-d1 ok _ (d1-exists s ok).1 l)
      go (no l) = (_, opens-more ok _ (d1-exists s ok).1 (omega arith))

  -- "by the sheet alone": opening is refused exactly as admission is, and so by 1 to 6 alone
  pub open-refused : (m : ℕ) (given : List ℕ) → (opens s ≡ refusal m given) ↔ (admits s ≡ refusal m given)
  unfolding opens measures_d1
  open-refused m given = go (judged-stage s)
    where
      go : Stage (judged s) → (opens s ≡ refusal m given) ↔ (admits s ≡ refusal m given)
      go (passes p) = (
        λ e. let z : answer ((open-exists (p (answer []))).0 ∷ []) ≡ refusal m given = sym (open-exists (p (answer []))).1 ∙ e in not-told (sym z) refl,
        λ e. not-told (sym (sym (p (answer [])) ∙ e)) refl,
      )
      go (refuses number values p) =
          let told : opens s ≡ refusal number values = ap plate_number (p (measures_admitted_d1 s most_cap)) in
          (λ e. p (answer []) ∙ sym told ∙ e, λ e. told ∙ sym (p (answer [])) ∙ e)

  module _ (number : ℕ) (opened : opens s ≡ answer (number ∷ [])) where
    -- what is opened is a page of an admitted sheet
    pub opened-admitted : Admitted s
    unfolding opens measures_d1
    opened-admitted = go (judged-stage s)
      where
        go : Stage (judged s) → Admitted s
        go (passes p) = p (answer [])
        go (refuses m given p) = not-told (sym (ap plate_number (p (measures_admitted_d1 s most_cap))) ∙ opened) refl

    module _ (d1 : ℕ) (D : D1 s d1) where
      -- the number is the true d1 where that is at most 8, else 9
      pub opened-is : ((d1 ≤ most_cap) × (number ≡ d1)) ⊎ ((most_cap < d1) × (number ≡ most_number))
      opened-is = go (dec_le d1 most_cap)
        where
          same : (m : ℕ) → opens s ≡ answer (m ∷ []) → number ≡ m
          same m e = let q : answer (number ∷ []) ≡ answer (m ∷ []) = sym opened ∙ e in cc q

          go : Dec (d1 ≤ most_cap) → ((d1 ≤ most_cap) × (number ≡ d1)) ⊎ ((most_cap < d1) × (number ≡ most_number))
          go (yes l) = inl (l, same d1 (opens-d1 opened-admitted d1 D l))
          go (no l) = inr (omega arith, same most_number (opens-more opened-admitted d1 D (omega arith)))

      -- so it is one that every call takes, and at most the true d1 always
      pub opened-most : ((1 ≤ number) × (number ≤ most_number)) × (number ≤ d1)
      opened-most = go opened-is
        where
          go : ((d1 ≤ most_cap) × (number ≡ d1)) ⊎ ((most_cap < d1) × (number ≡ most_number)) → ((1 ≤ number) × (number ≤ most_number)) × (number ≤ d1)
          go (inl p) = ((omega (arith, d1-some s D), omega arith), omega arith)
          go (inr p) = ((omega arith, omega arith), omega arith)

    -- the printed radius, whatever cap it was measured with: its double is below the number, so 16 does not refuse it
    pub printed-near : (cap v radius : ℕ) → Printed s cap v radius → 2 * held radius < number
    printed-near cap v radius p =
        let far = d1-exists s opened-admitted in
        let below = premise-of-d1 s cap v radius p far.0 far.1 in
        let at_most = (premise-met s cap v radius p).0 in
        elim (opened-is far.0 far.1) [ inl q ↦ omega (arith, q.1, below) | inr q ↦ omega (arith, q.1, at_most) ]

-- ---- reading by the number that opening gave: no wrong village

-- what a page write put in a slot, disturbed in at most t cells, where any later page, and any slot of it, holds it
module _ (s : Sheet) (first : ℕ) (before : List ℕ) (records : List StuckCell) (slot w x d : ℕ) (written : page_writes s first before records slot w ≡ answer (x ∷ d ∷ []))
    (number : ℕ) (opened : opens s ≡ answer (number ∷ []))
    (page : List ℕ) (place noise : ℕ) (holds : get_or page place 0 ≡ x ⊕ noise) (low : noise < 2 ^ s.n) where
  -- d1, of which the number is no more
  abbrev far : (d1 : ℕ) × D1 s d1
  far = d1-exists s (opened-admitted s number opened)

  -- so it is one of 1 to 9, and at most d1
  most : ((1 ≤ number) × (number ≤ most_number)) × (number ≤ far.0)
  most = opened-most s number opened far.0 far.1

  module _ (t : ℕ) (few : weight noise ≤ t) where
    -- "A station read its pages at radius 4 on a sheet with d1 = 3 and got wrong villages": no page read that answers gives one
    pub opened-right : (m z tried : ℕ) → page_reads s number page place t ≡ answer (m ∷ z ∷ tried ∷ []) → m ≡ w
    opened-right = page-reads-right s first before records slot w x d written number page place noise t holds low few far.0 far.1 most.1

    -- and each that 16 does not refuse answers
    pub opened-reads-back : length page ≤ most_slots → place < length page → 2 * t < number
        → (z : ℕ) × (tried : ℕ) × (page_reads s number page place t ≡ answer (w ∷ z ∷ tried ∷ []))
    opened-reads-back = page-reads-back s first before records slot w x d written number page place noise t holds low few far.0 far.1 most.1 most.0.1

  -- so the slot is read back at the printed radius
  pub printed-page-reads-back : (cap v radius : ℕ) → Printed s cap v radius → weight noise ≤ held radius → length page ≤ most_slots → place < length page
      → (z : ℕ) × (tried : ℕ) × (page_reads s number page place (held radius) ≡ answer (w ∷ z ∷ tried ∷ []))
  printed-page-reads-back cap v radius p few slots there = opened-reads-back (held radius) few slots there (printed-near s number opened cap v radius p)

-- ---- and 16 refuses no radius without cause

-- a radius of 0 to 4 whose double is not below the number that opening gave: every message's word, written with nothing stuck, can be disturbed in at most
-- so many cells so that no radius reads that message back
pub refused-radius : (s : Sheet) (number : ℕ) → opens s ≡ answer (number ∷ []) → (t : ℕ) → t ≤ most_radius → number ≤ 2 * t → (w : ℕ) → w < 2 ^ s.k
    → (x : ℕ) × (d : ℕ) × (writes s w 0 0 ≡ answer (x ∷ d ∷ []))
    × (noise : ℕ) × (noise < 2 ^ s.n) × (weight noise ≤ t)
    × ((radius m z tried : ℕ) → reads s (x ⊕ noise) radius ≡ answer (m ∷ z ∷ tried ∷ []) → m ≡ w → ⊥)
refused-radius s number opened t small wide w message =
    let ok = opened-admitted s number opened in
    let far = d1-exists s ok in
    let f = misread s far.0 far.1 ok w message in
    let light : weight f.3 ≤ t =
    elim (opened-is s number opened far.0 far.1) [ inl q ↦ omega (arith, q.1, f.5) | inr q ↦ absurd (omega (arith, q.1)) ] in
    (f.0, f.1, f.2, f.3, f.4, light, f.6)
