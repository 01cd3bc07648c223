-- What stops a whole-page write, each refusal exactly when: 1 to 6, 16, 13, and "any other length is refusal 25, after 13". A slot's own refusals never stop it: it tells no other number.
-- For request 7. Assumes nothing.
use mathlib.Core.Path.{◌≡◌, refl}
use mathlib.Core.Bool.{Bool, true, false, ◌&&◌, and-eq-true_iff, and-false}
use mathlib.Core.Logic.{◌⊎◌, inl, inr, ◌↔◌}
use mathlib.Core.List.{List, []}
use Prim.Native.Nat.{ℕ, ◌≤◌, ◌<◌}
use native.Mathlib.Omega.{arith}
use borrow.Author.Tests.{eqb-true, eqb-false, eq-eqb, ne_eqb, leb-true}
use lib.Dec.{eqb, leb}
use lib.ListN.{length}
use Rattle.paper.specs.Page.{most_slots, most_records, most_number, numbered, few_slots, few_records, paged}
use Rattle.paper.specs.WholePage.{one_each_slot, whole_writes}
use Rattle.paper.specs.Refusals.{Told, answer, refusal, unless}
use Rattle.paper.specs.Sheet.{Sheet, admits, Admitted}
use Rattle.paper.specs.declared.StuckCell.{StuckCell}
use Rattle.rules.proofs.Both.{both, outside}
use Rattle.rules.proofs.Rules.{is_refusal, of_sheet, either, past, own}
use Rattle.rules.proofs.Chains.{then-1, then-2, then-3}
use Rattle.sheet.proofs.Verdicts.{past-judged, sheet-told}
use Rattle.promises.proofs.PageOrder.{few-both, crowded}

module _ (s : Sheet) (number : ℕ) (page : List ℕ) (records : List StuckCell) (messages notes : List ℕ) where
  -- "Messages and notes have one entry a slot"
  one_each : (one_each_slot page messages notes ≡ true) ↔ ((length messages ≡ length page) × (length notes ≡ length page))
  one_each = (
    λ e. let p = (and-eq-true_iff (eqb (length messages) (length page)) (eqb (length notes) (length page))).0 e in (eqb-true _ _ p.0, eqb-true _ _ p.1),
    λ h. rw (eq-eqb (length messages) (length page) h.0, eq-eqb (length notes) (length page) h.1),
  )

  -- "any other length"
  other_length : (one_each_slot page messages notes ≡ false) ↔ ((length messages ≡ length page → ⊥) ⊎ (length notes ≡ length page → ⊥))
  other_length = (to (eqb (length messages) (length page)) refl, from)
    where
      to : (b : Bool) → eqb (length messages) (length page) ≡ b → (b && eqb (length notes) (length page)) ≡ false
          → (length messages ≡ length page → ⊥) ⊎ (length notes ≡ length page → ⊥)
      to true h e = inr (eqb-false (length notes) (length page) e)
      to false h e = inl (eqb-false (length messages) (length page) h)

      from : (length messages ≡ length page → ⊥) ⊎ (length notes ≡ length page → ⊥) → one_each_slot page messages notes ≡ false
      from (inl h) = rw (ne_eqb (length messages) (length page) h)
      from (inr h) = rw (ne_eqb (length notes) (length page) h, and-false (eqb (length messages) (length page)))

  -- what is told from rule 25, 13 and 16 on
  abbrev from-25 : Told
  from-25 = unless (one_each_slot page messages notes) 25 (answer [])

  abbrev from-13 : Told
  from-13 = unless (few_slots page && few_records records) 13 from-25

  abbrev from-16 : Told
  from-16 = unless (numbered number) 16 from-13

  -- what holds of their refusals and of the answer holds of what they tell
  module _ (P : Told → Type 0) (v : P (answer [])) (p : P (refusal 25 [])) where
    either-25 : P from-25
    either-25 = either 25 (answer []) P (one_each_slot page messages notes) p v

    either-13 : P (refusal 13 []) → P from-13
    either-13 q = either 13 from-25 P (few_slots page && few_records records) q either-25

    either-16 : P (refusal 13 []) → P (refusal 16 []) → P from-16
    either-16 q r = either 16 from-13 P (numbered number) r (either-13 q)

  -- 1 to 6
  pub whole-sheet : (m : ℕ) (given : List ℕ) → m ≤ 6 → (whole_writes s number page records messages notes ≡ refusal m given) ↔ (admits s ≡ refusal m given)
  unfolding whole_writes paged
  whole-sheet = sheet-told s from-16 (either-16 (λ t. of_sheet t ≡ false) refl refl refl refl)

  -- 16, straight after 6
  pub whole-16 : (whole_writes s number page records messages notes ≡ refusal 16 []) ↔ (Admitted s × ((number ≡ 0) ⊎ (most_number < number)))
  unfolding whole_writes paged
  whole-16 =
      then-1 (past-judged s from-16 (refusal 16 []) refl) (own 16 from-13 (numbered number) (outside most_number number) (either-13 (λ t. is_refusal 16 t ≡ false) refl refl refl))

  -- what is not 16 is told past it, and what is not 13 past 13
  past-16 : (t : Told) → is_refusal 16 t ≡ false → (from-16 ≡ t) ↔ (((1 ≤ number) × (number ≤ most_number)) × (from-13 ≡ t))
  past-16 = past 16 from-13 (numbered number) (both 1 number number most_number)

  past-13 : (t : Told) → is_refusal 13 t ≡ false → (from-13 ≡ t) ↔ (((length page ≤ most_slots) × (length records ≤ most_records)) × (from-25 ≡ t))
  past-13 = past 13 from-25 (few_slots page && few_records records) (few-both page records)

  -- 13: "more than 256 records or 2,048 slots"
  pub whole-13 : (whole_writes s number page records messages notes ≡ refusal 13 [])
      ↔ (Admitted s × ((1 ≤ number) × (number ≤ most_number)) × ((most_records < length records) ⊎ (most_slots < length page)))
  unfolding whole_writes paged
  whole-13 =
      let t : Told = refusal 13 [] in
      then-2 (past-judged s from-16 t refl) (past-16 t refl)
      (own 13 from-25 (few_slots page && few_records records) (crowded page records) (either-25 (λ t. is_refusal 13 t ≡ false) refl refl))

  -- 25: "any other length is refusal 25, after 13"
  pub whole-25 : (whole_writes s number page records messages notes ≡ refusal 25 [])
      ↔ (Admitted s × ((1 ≤ number) × (number ≤ most_number)) × ((length page ≤ most_slots) × (length records ≤ most_records))
      × ((length messages ≡ length page → ⊥) ⊎ (length notes ≡ length page → ⊥)))
  unfolding whole_writes paged
  whole-25 =
      let t : Told = refusal 25 [] in
      then-3 (past-judged s from-16 t refl) (past-16 t refl) (past-13 t refl) (own 25 (answer []) (one_each_slot page messages notes) other_length refl)

  -- and else it is done, whatever the slots' own refusals are
  pub whole-done : (whole_writes s number page records messages notes ≡ answer [])
      ↔ (Admitted s × ((1 ≤ number) × (number ≤ most_number)) × ((length page ≤ most_slots) × (length records ≤ most_records))
      × ((length messages ≡ length page) × (length notes ≡ length page)))
  unfolding whole_writes paged
  whole-done =
      let t : Told = answer [] in
      then-3 (past-judged s from-16 t refl) (past-16 t refl) (past-13 t refl)
      ((λ e. ((past 25 (answer []) (one_each_slot page messages notes) one_each t refl).0 e).0), (λ h. (past 25 (answer []) (one_each_slot page messages notes) one_each t refl).1 (h, refl)))

  -- it tells no other number: none of 7, 9, 14 and 15
  pub whole_tells : (m : ℕ) (given : List ℕ) → whole_writes s number page records messages notes ≡ refusal m given → (m ≤ 6) ⊎ ((m ≡ 13) ⊎ ((m ≡ 16) ⊎ (m ≡ 25)))
  unfolding whole_writes paged
  whole_tells m given e = go (leb m 6) refl
    where
      Own : Told → Type 0
      Own t = t ≡ refusal m given → (m ≡ 13) ⊎ ((m ≡ 16) ⊎ (m ≡ 25))

      numbers : Own from-16
      numbers = either-16 Own (λ e. let z : ◌≡◌ {A = ℕ} 0 1 = cc in absurd (omega arith)) (λ e. inr (inr cc)) (λ e. inl cc) (λ e. inr (inl cc))

      go : (b : Bool) → leb m 6 ≡ b → (m ≤ 6) ⊎ ((m ≡ 13) ⊎ ((m ≡ 16) ⊎ (m ≡ 25)))
      go true h = inl (leb-true m 6 h)
      go false h = inr (numbers ((past-judged s from-16 (refusal m given) h).0 e).1)
