-- "Order: 1 to 6, 13, 14, 15, then 7 and 9 or 11 and 12; a read also gives 10 after 14", and 16, in request 6's two places:
-- each refusal of a page write and a page read, exactly when. For the numbered refusals of requests 1 and 6. Assumes nothing.
use mathlib.Core.Path.{◌≡◌, refl}
use mathlib.Core.Bool.{Bool, true, false, ◌&&◌}
use mathlib.Core.Logic.Iff
use mathlib.Core.Logic.{◌⊎◌, inl, inr, ◌↔◌}
use mathlib.Core.List.{List, [], ◌∷◌}
use Prim.Native.Nat.{ℕ, ◌*◌, ◌^◌, ◌≤◌, ◌<◌}
use native.Mathlib.Nat.{zero-add}
use native.Mathlib.Omega.{arith}
use borrow.Author.Tests.{ltb-true, ltb-false, lt-ltb, le-ltb, leb-true, leb-false, le-leb, lt-leb}
use lib.Dec.{leb, ltb}
use lib.ListN.{length, get_or}
use Rattle.paper.specs.First.{nowhere, at, first}
use Rattle.paper.specs.Words.{width}
use Rattle.paper.specs.Listing.{missed}
use Rattle.paper.specs.Refusals.{Told, answer, refusal, unless, unless_at}
use Rattle.paper.specs.Sheet.{Sheet, admits, Admitted}
use Rattle.paper.specs.Writing.{word_of, fits}
use Rattle.paper.specs.Reading.{most_radius, stray_cell, nearest, reads}
use Rattle.paper.specs.Page.{most_slots, most_records, most_number, numbered, records_of, first_broken, stuck_by, levels_by, paged, few_slots, few_records, slot_writes, page_writes, slot_reads, page_reads}
use Rattle.paper.specs.declared.StuckCell.{StuckCell}
use Rattle.rules.proofs.Both.{both, not-both, outside}
use Rattle.rules.proofs.Rules.{is_refusal, of_sheet, either, either-at, past, past-at, own, own_at, own-or}
use Rattle.rules.proofs.Chains.{then-1, then-2, then-3, last-3, or_else}
use Rattle.sheet.proofs.Verdicts.{past-judged, sheet-told}
use Rattle.promises.proofs.Answers.{read_told}
use Rattle.promises.proofs.Order.{unchosen, unheard, from-9, either-9, from-12, either-12}

-- ---- 13: "more than 256 records or 2,048 slots"

module _ (page : List ℕ) (records : List StuckCell) where
  pub few-both : ((few_slots page && few_records records) ≡ true) ↔ ((length page ≤ most_slots) × (length records ≤ most_records))
  few-both = both (length page) most_slots (length records) most_records

  pub crowded : ((few_slots page && few_records records) ≡ false) ↔ ((most_records < length records) ⊎ (most_slots < length page))
  crowded = let i = not-both (length page) most_slots (length records) most_records in (
    λ e. elim (i.0 e) [ inl h ↦ inr h | inr h ↦ inl h ],
    λ h. i.1 (elim h [ inl p ↦ inr p | inr p ↦ inl p ]),
  )

-- ---- a page write

module _ (s : Sheet) (number : ℕ) (page : List ℕ) (records : List StuckCell) (slot w : ℕ) where
  -- this slot's records, and what is told from rule 7, 15, 14, 13 and 16 on
  abbrev rs : List StuckCell
  rs = records_of slot records

  abbrev from-7 : Told
  from-7 = unless (ltb w (2 ^ s.k)) 7 (from-9 s w (stuck_by rs) (levels_by rs))

  abbrev from-15 : Told
  from-15 = unless_at (first_broken s.n rs) 15 0 from-7

  abbrev from-14 : Told
  from-14 = unless (ltb slot (length page)) 14 from-15

  abbrev from-13 : Told
  from-13 = unless (few_slots page && few_records records) 13 from-14

  abbrev from-16 : Told
  from-16 = unless (numbered number) 16 from-13

  -- what holds of their refusals and of every answer holds of what they tell
  module _ (P : Told → Type 0) (n : P (refusal 9 [])) (v : (values : List ℕ) → P (answer values)) where
    either-7 : P (refusal 7 []) → P from-7
    either-7 p = either 7 (from-9 s w (stuck_by rs) (levels_by rs)) P (ltb w (2 ^ s.k)) p (either-9 s w (stuck_by rs) (levels_by rs) P n v)

    either-15 : P (refusal 7 []) → ((given : List ℕ) → P (refusal 15 given)) → P from-15
    either-15 p q = either-at 15 from-7 P (first_broken s.n rs) 0 q (either-7 p)

    either-14 : P (refusal 7 []) → ((given : List ℕ) → P (refusal 15 given)) → P (refusal 14 []) → P from-14
    either-14 p q r = either 14 from-15 P (ltb slot (length page)) r (either-15 p q)

    either-13 : P (refusal 7 []) → ((given : List ℕ) → P (refusal 15 given)) → P (refusal 14 []) → P (refusal 13 []) → P from-13
    either-13 p q r t = either 13 from-14 P (few_slots page && few_records records) t (either-14 p q r)

    either-16 : P (refusal 7 []) → ((given : List ℕ) → P (refusal 15 given)) → P (refusal 14 []) → P (refusal 13 []) → P (refusal 16 []) → P from-16
    either-16 p q r t u = either 16 from-13 P (numbered number) u (either-13 p q r t)

  -- 1 to 6
  pub page-write-sheet : (m : ℕ) (given : List ℕ) → m ≤ 6 → (page_writes s number page records slot w ≡ refusal m given) ↔ (admits s ≡ refusal m given)
  unfolding page_writes paged slot_writes
  page-write-sheet = sheet-told s from-16 (either-16 (λ t. of_sheet t ≡ false) refl (λ values. refl) refl (λ given. refl) refl refl refl)

  -- 16: "A number outside 1 to 9 is also 16, for every call on the page, straight after 6."
  pub page-write-16 : (page_writes s number page records slot w ≡ refusal 16 []) ↔ (Admitted s × ((number ≡ 0) ⊎ (most_number < number)))
  unfolding page_writes paged slot_writes
  page-write-16 =
      then-1 (past-judged s from-16 (refusal 16 []) refl)
      (own 16 from-13 (numbered number) (outside most_number number)
      (either-13 (λ t. is_refusal 16 t ≡ false) refl (λ values. refl) refl (λ given. refl) refl refl))

  -- what is not 16 is told past it
  past-16 : (t : Told) → is_refusal 16 t ≡ false → (from-16 ≡ t) ↔ (((1 ≤ number) × (number ≤ most_number)) × (from-13 ≡ t))
  past-16 = past 16 from-13 (numbered number) (both 1 number number most_number)

  -- 13: "more than 256 records or 2,048 slots"
  pub page-write-13 : (page_writes s number page records slot w ≡ refusal 13 [])
      ↔ (Admitted s × ((1 ≤ number) × (number ≤ most_number)) × ((most_records < length records) ⊎ (most_slots < length page)))
  unfolding page_writes paged slot_writes
  page-write-13 =
      let t : Told = refusal 13 [] in
      then-2 (past-judged s from-16 t refl) (past-16 t refl)
      (own 13 from-14 (few_slots page && few_records records) (crowded page records)
      (either-14 (λ t. is_refusal 13 t ≡ false) refl (λ values. refl) refl (λ given. refl) refl))

  -- what is not 13 is told past 13, and what is not 14 past 14
  past-13 : (t : Told) → is_refusal 13 t ≡ false → (from-13 ≡ t) ↔ (((length page ≤ most_slots) × (length records ≤ most_records)) × (from-14 ≡ t))
  past-13 = past 13 from-14 (few_slots page && few_records records) (few-both page records)

  past-14 : (t : Told) → is_refusal 14 t ≡ false → (from-14 ≡ t) ↔ ((slot < length page) × (from-15 ≡ t))
  past-14 = past 14 from-15 (ltb slot (length page)) (ltb-true slot (length page), lt-ltb slot (length page))

  -- 14: "no such slot"
  pub page-write-14 : (page_writes s number page records slot w ≡ refusal 14 [])
      ↔ (Admitted s × ((1 ≤ number) × (number ≤ most_number)) × ((length page ≤ most_slots) × (length records ≤ most_records)) × (length page ≤ slot))
  unfolding page_writes paged slot_writes
  page-write-14 =
      let t : Told = refusal 14 [] in
      then-3 (past-judged s from-16 t refl) (past-16 t refl) (past-13 t refl)
      (own 14 from-15 (ltb slot (length page)) (ltb-false slot (length page), le-ltb slot (length page))
      (either-15 (λ t. is_refusal 14 t ≡ false) refl (λ values. refl) refl (λ given. refl)))

  -- 15, with "the place, from 0 among this slot's records, of the first that breaks the rule"
  pub page-write-15 : (place : ℕ) → (page_writes s number page records slot w ≡ refusal 15 (place ∷ []))
      ↔ (Admitted s × ((1 ≤ number) × (number ≤ most_number)) × ((length page ≤ most_slots) × (length records ≤ most_records))
      × ((slot < length page) × (first_broken s.n (records_of slot records) ≡ at place)))
  unfolding page_writes paged slot_writes
  page-write-15 place =
      let t : Told = refusal 15 (place ∷ []) in
      then-3 (past-judged s from-16 t refl) (past-16 t refl) (past-13 t refl)
      (then-1 (past-14 t refl)
      (own_at 15 from-7 (first_broken s.n rs) 0 place place (zero-add place) (either-7 (λ t. is_refusal 15 t ≡ false) refl (λ values. refl) refl)))

  -- 7, after 15
  pub page-write-7 : (page_writes s number page records slot w ≡ refusal 7 [])
      ↔ (Admitted s × ((1 ≤ number) × (number ≤ most_number)) × ((length page ≤ most_slots) × (length records ≤ most_records))
      × ((slot < length page) × (first_broken s.n (records_of slot records) ≡ nowhere) × (2 ^ s.k ≤ w)))
  unfolding page_writes paged slot_writes
  page-write-7 =
      let t : Told = refusal 7 [] in
      then-3 (past-judged s from-16 t refl) (past-16 t refl) (past-13 t refl)
      (then-2 (past-14 t refl) (past-at 15 from-7 (first_broken s.n rs) 0 t refl)
      (own 7 (from-9 s w (stuck_by rs) (levels_by rs)) (ltb w (2 ^ s.k)) (ltb-false w (2 ^ s.k), le-ltb w (2 ^ s.k))
      (either-9 s w (stuck_by rs) (levels_by rs) (λ t. is_refusal 7 t ≡ false) refl (λ values. refl))))

  -- what none of the rules 1 to 7 and 13 to 16 tells: 9, or the word
  pub page-write-told : (t : Told) → of_sheet t ≡ false → is_refusal 16 t ≡ false → is_refusal 13 t ≡ false → is_refusal 14 t ≡ false → is_refusal 15 t ≡ false
      → is_refusal 7 t ≡ false
      → (page_writes s number page records slot w ≡ t)
      ↔ (Admitted s × ((1 ≤ number) × (number ≤ most_number)) × ((length page ≤ most_slots) × (length records ≤ most_records))
      × ((slot < length page) × (first_broken s.n (records_of slot records) ≡ nowhere) × (w < 2 ^ s.k)
      × (from-9 s w (stuck_by (records_of slot records)) (levels_by (records_of slot records)) ≡ t)))
  unfolding page_writes paged slot_writes
  page-write-told t h h16 h13 h14 h15 h7 =
      then-3 (past-judged s from-16 t h) (past-16 t h16) (past-13 t h13)
      (then-3 (past-14 t h14) (past-at 15 from-7 (first_broken s.n rs) 0 t h15)
      (past 7 (from-9 s w (stuck_by rs) (levels_by rs)) (ltb w (2 ^ s.k)) (ltb-true w (2 ^ s.k), lt-ltb w (2 ^ s.k)) t h7) Iff.rfl)

  -- 9: "no word of the message fits"
  pub page-write-9 : (page_writes s number page records slot w ≡ refusal 9 [])
      ↔ (Admitted s × ((1 ≤ number) × (number ≤ most_number)) × ((length page ≤ most_slots) × (length records ≤ most_records))
      × ((slot < length page) × (first_broken s.n (records_of slot records) ≡ nowhere) × (w < 2 ^ s.k)
      × ((d : ℕ) → d < 2 ^ s.l → fits (stuck_by (records_of slot records)) (levels_by (records_of slot records)) (word_of s w d) ≡ false)))
  page-write-9 =
      last-3 (page-write-told (refusal 9 []) refl refl refl refl refl refl) (last-3 Iff.rfl (unchosen s w (stuck_by rs) (levels_by rs)))

  -- a page write tells no other number: none of 8, 10, 11 and 12
  pub page-write-tells : (m : ℕ) (given : List ℕ) → page_writes s number page records slot w ≡ refusal m given
      → (m ≤ 6) ⊎ ((m ≡ 7) ⊎ ((m ≡ 9) ⊎ ((13 ≤ m) × (m ≤ 16))))
  unfolding page_writes paged slot_writes
  page-write-tells m given e = go (leb m 6) refl
    where
      Own : Told → Type 0
      Own t = t ≡ refusal m given → (m ≡ 7) ⊎ ((m ≡ 9) ⊎ ((13 ≤ m) × (m ≤ 16)))

      numbers : Own from-16
      numbers = either-16 Own (λ e. inr (inl cc)) (λ values e. let z : ◌≡◌ {A = ℕ} 0 1 = cc in absurd (omega arith)) (λ e. inl cc)
          (λ given e. let z : 15 ≡ m = cc in inr (inr (omega arith, omega arith)))
          (λ e. let z : 14 ≡ m = cc in inr (inr (omega arith, omega arith)))
          (λ e. let z : 13 ≡ m = cc in inr (inr (omega arith, omega arith)))
          (λ e. let z : 16 ≡ m = cc in inr (inr (omega arith, omega arith)))

      go : (b : Bool) → leb m 6 ≡ b → (m ≤ 6) ⊎ ((m ≡ 7) ⊎ ((m ≡ 9) ⊎ ((13 ≤ m) × (m ≤ 16))))
      go true h = inl (leb-true m 6 h)
      go false h = inr (numbers ((past-judged s from-16 (refusal m given) h).0 e).1)

-- ---- a page read

module _ (s : Sheet) (number : ℕ) (page : List ℕ) (slot radius : ℕ) where
  -- what the slot holds, and what is told from 16 for the radius, from rule 11, 10, 14, 13, and from 16 for the number on
  abbrev y : ℕ
  y = get_or page slot 0

  abbrev read-near : Told
  read-near = unless (ltb (2 * radius) number) 16 (from-12 s y radius)

  abbrev read-from-11 : Told
  read-from-11 = unless (leb radius most_radius) 11 read-near

  abbrev read-from-10 : Told
  read-from-10 = unless_at (first width (stray_cell s.n y)) 10 0 read-from-11

  abbrev read-from-14 : Told
  read-from-14 = unless (ltb slot (length page)) 14 read-from-10

  abbrev read-from-13 : Told
  read-from-13 = unless (few_slots page) 13 read-from-14

  abbrev read-from-16 : Told
  read-from-16 = unless (numbered number) 16 read-from-13

  -- what holds of their refusals and of every answer holds of what they tell
  module _ (P : Told → Type 0) (r : (given : List ℕ) → P (refusal 12 given)) (v : (values : List ℕ) → P (answer values)) where
    either-near : P (refusal 16 []) → P read-near
    either-near u = either 16 (from-12 s y radius) P (ltb (2 * radius) number) u (either-12 s y radius P r v)

    either-11 : P (refusal 16 []) → P (refusal 11 []) → P read-from-11
    either-11 u l = either 11 read-near P (leb radius most_radius) l (either-near u)

    either-10 : P (refusal 16 []) → P (refusal 11 []) → ((given : List ℕ) → P (refusal 10 given)) → P read-from-10
    either-10 u l c = either-at 10 read-from-11 P (first width (stray_cell s.n y)) 0 c (either-11 u l)

    either-read-14 : P (refusal 16 []) → P (refusal 11 []) → ((given : List ℕ) → P (refusal 10 given)) → P (refusal 14 []) → P read-from-14
    either-read-14 u l c p = either 14 read-from-10 P (ltb slot (length page)) p (either-10 u l c)

    either-read-13 : P (refusal 16 []) → P (refusal 11 []) → ((given : List ℕ) → P (refusal 10 given)) → P (refusal 14 []) → P (refusal 13 []) → P read-from-13
    either-read-13 u l c p q = either 13 read-from-14 P (few_slots page) q (either-read-14 u l c p)

    either-read-16 : P (refusal 16 []) → P (refusal 11 []) → ((given : List ℕ) → P (refusal 10 given)) → P (refusal 14 []) → P (refusal 13 []) → P read-from-16
    either-read-16 u l c p q = either 16 read-from-13 P (numbered number) u (either-read-13 u l c p q)

  -- 1 to 6
  pub page-read-sheet : (m : ℕ) (given : List ℕ) → m ≤ 6 → (page_reads s number page slot radius ≡ refusal m given) ↔ (admits s ≡ refusal m given)
  unfolding page_reads paged slot_reads
  page-read-sheet = sheet-told s read-from-16 (either-read-16 (λ t. of_sheet t ≡ false) (λ given. refl) (λ values. refl) refl refl (λ given. refl) refl refl)

  -- what another rule tells is told past each of them
  past-number : (t : Told) → is_refusal 16 t ≡ false → (read-from-16 ≡ t) ↔ (((1 ≤ number) × (number ≤ most_number)) × (read-from-13 ≡ t))
  past-number = past 16 read-from-13 (numbered number) (both 1 number number most_number)

  past-slots : (t : Told) → is_refusal 13 t ≡ false → (read-from-13 ≡ t) ↔ ((length page ≤ most_slots) × (read-from-14 ≡ t))
  past-slots = past 13 read-from-14 (few_slots page) (leb-true (length page) most_slots, le-leb (length page) most_slots)

  past-slot : (t : Told) → is_refusal 14 t ≡ false → (read-from-14 ≡ t) ↔ ((slot < length page) × (read-from-10 ≡ t))
  past-slot = past 14 read-from-10 (ltb slot (length page)) (ltb-true slot (length page), lt-ltb slot (length page))

  past_word : (t : Told) → is_refusal 10 t ≡ false → (read-from-10 ≡ t) ↔ ((first width (stray_cell s.n y) ≡ nowhere) × (read-from-11 ≡ t))
  past_word = past-at 10 read-from-11 (first width (stray_cell s.n y)) 0

  past-radius : (t : Told) → is_refusal 11 t ≡ false → (read-from-11 ≡ t) ↔ ((radius ≤ most_radius) × (read-near ≡ t))
  past-radius = past 11 read-near (leb radius most_radius) (leb-true radius most_radius, le-leb radius most_radius)

  -- "gives 13 for slots only"
  pub page-read-13 : (page_reads s number page slot radius ≡ refusal 13 [])
      ↔ (Admitted s × ((1 ≤ number) × (number ≤ most_number)) × (most_slots < length page))
  unfolding page_reads paged slot_reads
  page-read-13 =
      let t : Told = refusal 13 [] in
      then-2 (past-judged s read-from-16 t refl) (past-number t refl)
      (own 13 read-from-14 (few_slots page) (leb-false (length page) most_slots, lt-leb (length page) most_slots)
      (either-read-14 (λ t. is_refusal 13 t ≡ false) (λ given. refl) (λ values. refl) refl refl (λ given. refl) refl))

  -- 14: "no such slot"
  pub page-read-14 : (page_reads s number page slot radius ≡ refusal 14 [])
      ↔ (Admitted s × ((1 ≤ number) × (number ≤ most_number)) × (length page ≤ most_slots) × (length page ≤ slot))
  unfolding page_reads paged slot_reads
  page-read-14 =
      let t : Told = refusal 14 [] in
      then-3 (past-judged s read-from-16 t refl) (past-number t refl) (past-slots t refl)
      (own 14 read-from-10 (ltb slot (length page)) (ltb-false slot (length page), le-ltb slot (length page))
      (either-10 (λ t. is_refusal 14 t ≡ false) (λ given. refl) (λ values. refl) refl refl (λ given. refl)))

  -- "a read also gives 10 after 14"
  pub page-read-10 : (c : ℕ) → (page_reads s number page slot radius ≡ refusal 10 (c ∷ []))
      ↔ (Admitted s × ((1 ≤ number) × (number ≤ most_number)) × (length page ≤ most_slots)
      × ((slot < length page) × (first width (stray_cell s.n (get_or page slot 0)) ≡ at c)))
  unfolding page_reads paged slot_reads
  page-read-10 c =
      let t : Told = refusal 10 (c ∷ []) in
      then-3 (past-judged s read-from-16 t refl) (past-number t refl) (past-slots t refl)
      (then-1 (past-slot t refl)
      (own_at 10 read-from-11 (first width (stray_cell s.n y)) 0 c c (zero-add c) (either-11 (λ t. is_refusal 10 t ≡ false) (λ given. refl) (λ values. refl) refl refl)))

  -- 11, after 10
  pub page-read-11 : (page_reads s number page slot radius ≡ refusal 11 [])
      ↔ (Admitted s × ((1 ≤ number) × (number ≤ most_number)) × (length page ≤ most_slots)
      × ((slot < length page) × (first width (stray_cell s.n (get_or page slot 0)) ≡ nowhere) × (most_radius < radius)))
  unfolding page_reads paged slot_reads
  page-read-11 =
      let t : Told = refusal 11 [] in
      then-3 (past-judged s read-from-16 t refl) (past-number t refl) (past-slots t refl)
      (then-2 (past-slot t refl) (past_word t refl)
      (own 11 read-near (leb radius most_radius) (leb-false radius most_radius, lt-leb radius most_radius) (either-near (λ t. is_refusal 11 t ≡ false) (λ given. refl) (λ values. refl) refl)))

  -- 16, in its two places: the number, "straight after 6", and the radius, "after 11 and before 12"
  pub page-read-16 : (page_reads s number page slot radius ≡ refusal 16 [])
      ↔ (Admitted s
      × (((number ≡ 0) ⊎ (most_number < number))
      ⊎ (((1 ≤ number) × (number ≤ most_number))
      × ((length page ≤ most_slots) × (slot < length page) × (first width (stray_cell s.n (get_or page slot 0)) ≡ nowhere)
      × ((radius ≤ most_radius) × (number ≤ 2 * radius))))))
  unfolding page_reads paged slot_reads
  page-read-16 =
      let t : Told = refusal 16 [] in
      then-1 (past-judged s read-from-16 t refl)
      (or_else (own-or 16 read-from-13 (numbered number)) (outside most_number number) (both 1 number number most_number)
      (then-3 (past-slots t refl) (past-slot t refl) (past_word t refl)
      (then-1 (past-radius t refl)
      (own 16 (from-12 s y radius) (ltb (2 * radius) number) (ltb-false (2 * radius) number, le-ltb (2 * radius) number)
      (either-12 s y radius (λ t. is_refusal 16 t ≡ false) (λ given. refl) (λ values. refl))))))

  -- what none of the rules 1 to 6, 10, 11, 13, 14 and 16 tells: 12, or the message
  pub page-read-told : (t : Told) → of_sheet t ≡ false → is_refusal 16 t ≡ false → is_refusal 13 t ≡ false → is_refusal 14 t ≡ false → is_refusal 10 t ≡ false
      → is_refusal 11 t ≡ false
      → (page_reads s number page slot radius ≡ t)
      ↔ (Admitted s × ((1 ≤ number) × (number ≤ most_number)) × (length page ≤ most_slots)
      × ((slot < length page) × (first width (stray_cell s.n (get_or page slot 0)) ≡ nowhere) × (radius ≤ most_radius)
      × ((2 * radius < number) × (from-12 s (get_or page slot 0) radius ≡ t))))
  unfolding page_reads paged slot_reads
  page-read-told t h h16 h13 h14 h10 h11 =
      then-3 (past-judged s read-from-16 t h) (past-number t h16) (past-slots t h13)
      (then-3 (past-slot t h14) (past_word t h10) (past-radius t h11)
      (past 16 (from-12 s y radius) (ltb (2 * radius) number) (ltb-true (2 * radius) number, lt-ltb (2 * radius) number) t h16))

  -- 12, after 16
  pub page-read-12 : (tried : ℕ) → (page_reads s number page slot radius ≡ refusal 12 (tried ∷ []))
      ↔ (Admitted s × ((1 ≤ number) × (number ≤ most_number)) × (length page ≤ most_slots)
      × ((slot < length page) × (first width (stray_cell s.n (get_or page slot 0)) ≡ nowhere) × (radius ≤ most_radius)
      × ((2 * radius < number) × (nearest s (get_or page slot 0) radius ≡ missed tried))))
  page-read-12 tried =
      last-3 (page-read-told (refusal 12 (tried ∷ [])) refl refl refl refl refl refl) (last-3 Iff.rfl (then-1 Iff.rfl (unheard s y (nearest s y radius) tried)))

  -- so what it tells is what the base's read of what the slot holds tells
  pub page-read-is-read : (t : Told) → of_sheet t ≡ false → is_refusal 16 t ≡ false → is_refusal 13 t ≡ false → is_refusal 14 t ≡ false → is_refusal 10 t ≡ false
      → is_refusal 11 t ≡ false → page_reads s number page slot radius ≡ t → reads s (get_or page slot 0) radius ≡ t
  page-read-is-read t h h16 h13 h14 h10 h11 e =
      let p = (page-read-told t h h16 h13 h14 h10 h11).0 e in (read_told s y radius t h h10 h11).1 (p.0, p.3.1, p.3.2, p.3.3.1)

  -- a page read tells no other number: none of 7, 8, 9 and 15
  pub page-read-tells : (m : ℕ) (given : List ℕ) → page_reads s number page slot radius ≡ refusal m given
      → (m ≤ 6) ⊎ (((10 ≤ m) × (m ≤ 14)) ⊎ (m ≡ 16))
  unfolding page_reads paged slot_reads
  page-read-tells m given e = go (leb m 6) refl
    where
      Own : Told → Type 0
      Own t = t ≡ refusal m given → ((10 ≤ m) × (m ≤ 14)) ⊎ (m ≡ 16)

      numbers : Own read-from-16
      numbers = either-read-16 Own (λ given e. let z : 12 ≡ m = cc in inl (omega arith, omega arith))
          (λ values e. let z : ◌≡◌ {A = ℕ} 0 1 = cc in absurd (omega arith)) (λ e. inr cc) (λ e. let z : 11 ≡ m = cc in inl (omega arith, omega arith))
          (λ given e. let z : 10 ≡ m = cc in inl (omega arith, omega arith)) (λ e. let z : 14 ≡ m = cc in inl (omega arith, omega arith))
          (λ e. let z : 13 ≡ m = cc in inl (omega arith, omega arith))

      go : (b : Bool) → leb m 6 ≡ b → (m ≤ 6) ⊎ (((10 ≤ m) × (m ≤ 14)) ⊎ (m ≡ 16))
      go true h = inl (leb-true m 6 h)
      go false h = inr (numbers ((past-judged s read-from-16 (refusal m given) h).0 e).1)
