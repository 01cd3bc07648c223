-- Demands 2 and 3 on pages: a page write that 16, 13, 14 and 15 do not refuse is the base's write on what the slot's records gather to,
-- and a page read that 16, 13 and 14 do not refuse is the base's read of what the slot holds. So what the base promises of them holds on pages. Assumes nothing.
use mathlib.Core.Path.{◌≡◌, refl, sym, ap, ◌∙◌}
use mathlib.Core.Bool.{false}
use mathlib.Core.List.{List, [], ◌∷◌}
use Prim.Native.Nat.{ℕ, ◌+◌, ◌*◌, ◌^◌, ◌≤◌, ◌<◌}
use native.Mathlib.Omega.{arith}
use borrow.Author.Tests.{le-leb, lt-ltb}
use lib.ListN.{length, get_or}
use lib.Seq.{get_or-set_same}
use Rattle.paper.specs.First.{nowhere}
use Rattle.paper.specs.Words.{cell, weight, ◌⊕◌}
use Rattle.paper.specs.Refusals.{Told, answer, more, refusal}
use Rattle.paper.specs.Sheet.{Sheet, Admitted, Codeword, WordOf}
use Rattle.paper.specs.Writing.{fits, writes_admitted, writes}
use Rattle.paper.specs.Reading.{reads_admitted, reads}
use Rattle.paper.specs.Plate.{Hidden, D0, D1, measures_d0, measures_d1}
use Rattle.paper.specs.Page.{most_slots, most_records, most_number, records_of, no_record, first_broken, stuck_by, levels_by, paged, slot_writes, page_writes, page_after_write, slot_reads, page_reads}
use Rattle.paper.specs.Promised.{Fitting, Nearest}
use Rattle.paper.specs.declared.StuckCell.{StuckCell}
use Rattle.rules.proofs.Both.{both}
use Rattle.rules.proofs.Rules.{is_refusal, of_sheet}
use Rattle.records.proofs.Said.{unbroken-stuck, few_stuck}
use Rattle.writing.proofs.Breaches.{stuck-passes}
use Rattle.promises.proofs.Writing.{written-fits, refused_none, none-refused}
use Rattle.promises.proofs.Reading.{read_first, refused-far}
use Rattle.promises.proofs.Plate.{more-d1}
use Rattle.promises.proofs.Demand3.{d0-fits, more-d0-fits, reads-back}
use Rattle.promises.proofs.PageOrder.{page-write-told, page-read-told, page-read-is-read}
use Rattle.promises.proofs.PageRecords.{fits-records}

-- ---- writing

module _ (s : Sheet) (number : ℕ) (page : List ℕ) (records : List StuckCell) (slot w : ℕ) where
  module _ (numbers : (1 ≤ number) × (number ≤ most_number)) (slots : length page ≤ most_slots) (list : length records ≤ most_records) (there : slot < length page)
      (good : first_broken s.n (records_of slot records) ≡ nowhere) where
    -- past 16, 13, 14 and 15, a page write is the base's write on what the records gather to, which 8 does not refuse
    pub write-is-base : page_writes s number page records slot w ≡ writes s w (stuck_by (records_of slot records)) (levels_by (records_of slot records))
    unfolding page_writes paged slot_writes writes writes_admitted
    write-is-base =
        rw (
          (both 1 number number most_number).1 numbers,
          le-leb (length page) most_slots slots,
          le-leb (length records) most_records list,
          lt-ltb slot (length page) there,
          good,
          stuck-passes s (stuck_by (records_of slot records)) (levels_by (records_of slot records)) (unbroken-stuck s (records_of slot records) good),
        )

    -- "fewer than d0 stuck cells at any levels, no message refused": of this slot's cells alone
    pub page-d0-fits : Admitted s → w < 2 ^ s.k → (d0 : ℕ) → D0 s d0 → weight (stuck_by (records_of slot records)) < d0
        → (x : ℕ) × (d : ℕ) × (page_writes s number page records slot w ≡ answer (x ∷ d ∷ []))
    page-d0-fits ok l d0 D few =
        let rs : List StuckCell = records_of slot records in
        let q = d0-fits s ok w l (stuck_by rs) (levels_by rs) (unbroken-stuck s rs good) d0 D few in
        (q.0, q.1, write-is-base ∙ q.2)

    -- so with fewer records for this slot than d0
    pub page-d0-records : Admitted s → w < 2 ^ s.k → (d0 : ℕ) → D0 s d0 → length (records_of slot records) < d0
        → (x : ℕ) × (d : ℕ) × (page_writes s number page records slot w ≡ answer (x ∷ d ∷ []))
    page-d0-records ok l d0 D few = page-d0-fits ok l d0 D (omega (arith, few_stuck (records_of slot records)))

    -- the same with the cap plus 1 where d0 is more than the cap
    pub page-more-d0-fits : Admitted s → w < 2 ^ s.k → (cap tried : ℕ) → measures_d0 s cap ≡ more (tried ∷ []) → weight (stuck_by (records_of slot records)) < cap + 1
        → (x : ℕ) × (d : ℕ) × (page_writes s number page records slot w ≡ answer (x ∷ d ∷ []))
    page-more-d0-fits ok l cap tried e few =
        let rs : List StuckCell = records_of slot records in
        let q = more-d0-fits s ok w l (stuck_by rs) (levels_by rs) (unbroken-stuck s rs good) cap tried e few in
        (q.0, q.1, write-is-base ∙ q.2)

    -- 9 always if no word fits
    pub page-none-refused : Admitted s → w < 2 ^ s.k
        → ((x : ℕ) → WordOf s w x → fits (stuck_by (records_of slot records)) (levels_by (records_of slot records)) x ≡ false)
        → page_writes s number page records slot w ≡ refusal 9 []
    page-none-refused ok l f =
        let rs : List StuckCell = records_of slot records in
        write-is-base ∙ none-refused s w (stuck_by rs) (levels_by rs) ok l (unbroken-stuck s rs good) f

  -- what no rule but 9 tells, or an answer, is the base's
  told-is-base : (t : Told) → of_sheet t ≡ false → is_refusal 16 t ≡ false → is_refusal 13 t ≡ false → is_refusal 14 t ≡ false → is_refusal 15 t ≡ false → is_refusal 7 t ≡ false
      → page_writes s number page records slot w ≡ t → writes s w (stuck_by (records_of slot records)) (levels_by (records_of slot records)) ≡ t
  told-is-base t h h16 h13 h14 h15 h7 e =
      let p = (page-write-told s number page records slot w t h h16 h13 h14 h15 h7).0 e in
      sym (write-is-base p.1 p.2.0 p.2.1 p.3.0 p.3.1) ∙ e

  -- demand 2: "a written word is exactly the one that the definition and the tie rule name"
  pub page-fits : (x d : ℕ) → page_writes s number page records slot w ≡ answer (x ∷ d ∷ [])
      → Fitting s w (stuck_by (records_of slot records)) (levels_by (records_of slot records)) x d
  page-fits x d e = written-fits s w _ _ x d (told-is-base (answer (x ∷ d ∷ [])) refl refl refl refl refl refl e)

  -- so it has, at the cell of each of this slot's records, the record's level
  pub page-levels : (x d : ℕ) → page_writes s number page records slot w ≡ answer (x ∷ d ∷ []) → (j : ℕ) → j < length (records_of slot records)
      → cell x (get_or (records_of slot records) j no_record).cell ≡ (get_or (records_of slot records) j no_record).level
  page-levels x d e =
      let good = ((page-write-told s number page records slot w (answer (x ∷ d ∷ [])) refl refl refl refl refl refl).0 e).3.1 in
      (fits-records s (records_of slot records) good x).0 (page-fits x d e).fit

  -- "refused for want of a word only if none fits"
  pub page-none : page_writes s number page records slot w ≡ refusal 9 []
      → (x : ℕ) → WordOf s w x → fits (stuck_by (records_of slot records)) (levels_by (records_of slot records)) x ≡ false
  page-none e = refused_none s w _ _ (told-is-base (refusal 9 []) refl refl refl refl refl refl e)

  -- "Write puts a word in one slot"
  pub slot-holds : (x d : ℕ) → page_writes s number page records slot w ≡ answer (x ∷ d ∷ []) → get_or (page_after_write (page_writes s number page records slot w) page slot) slot 0 ≡ x
  slot-holds x d e =
      ap (λ (t : Told). get_or (page_after_write t page slot) slot 0) e
      ∙ get_or-set_same page slot x 0 ((page-write-told s number page records slot w (answer (x ∷ d ∷ [])) refl refl refl refl refl refl).0 e).3.0

-- ---- reading

module _ (s : Sheet) (number : ℕ) (page : List ℕ) (slot t : ℕ) where
  -- past 16, 13 and 14, a page read is the base's read of what the slot holds
  pub read-is-base : (1 ≤ number) × (number ≤ most_number) → length page ≤ most_slots → slot < length page → 2 * t < number
      → page_reads s number page slot t ≡ reads s (get_or page slot 0) t
  unfolding page_reads paged slot_reads reads reads_admitted
  read-is-base numbers slots there near =
      rw ((both 1 number number most_number).1 numbers, le-leb (length page) most_slots slots, lt-ltb slot (length page) there, lt-ltb (2 * t) number near)

  -- demand 2: "reading gives the nearest codeword's message within the radius"
  pub page-read-first : get_or page slot 0 < 2 ^ s.n → (m z tried : ℕ) → page_reads s number page slot t ≡ answer (m ∷ z ∷ tried ∷ [])
      → Nearest s (get_or page slot 0) t m z tried
  page-read-first low m z tried e =
      read_first s (get_or page slot 0) low t m z tried (page-read-is-read s number page slot t (answer (m ∷ z ∷ tried ∷ [])) refl refl refl refl refl refl e)

  -- "or says there is none"
  pub page-refused-far : get_or page slot 0 < 2 ^ s.n → (tried : ℕ) → page_reads s number page slot t ≡ refusal 12 (tried ∷ [])
      → (x : ℕ) → Codeword s x → t < weight (get_or page slot 0 ⊕ x)
  page-refused-far low tried e =
      (refused-far s (get_or page slot 0) low t tried (page-read-is-read s number page slot t (refusal 12 (tried ∷ [])) refl refl refl refl refl refl e)).1

-- what a page write put in a slot, disturbed in at most t cells, where any later page, and any slot of it, holds it; the write's number and the read's may differ
module _ (s : Sheet) (first : ℕ) (before : List ℕ) (records : List StuckCell) (slot w x d : ℕ) (written : page_writes s first before records slot w ≡ answer (x ∷ d ∷ []))
    (number : ℕ) (page : List ℕ) (place noise t : ℕ) (holds : get_or page place 0 ≡ x ⊕ noise) (low : noise < 2 ^ s.n) (few : weight noise ≤ t) where
  -- the sheet of a page write that answers is admitted, and the answer is the base's
  ok : Admitted s
  ok = ((page-write-told s first before records slot w (answer (x ∷ d ∷ [])) refl refl refl refl refl refl).0 written).0

  base : writes s w (stuck_by (records_of slot records)) (levels_by (records_of slot records)) ≡ answer (x ∷ d ∷ [])
  base = told-is-base s first before records slot w (answer (x ∷ d ∷ [])) refl refl refl refl refl refl written

  -- no codeword of a message other than 0 weighs less than the number
  module _ (far : (c : ℕ) → Hidden s c → number ≤ weight c) where
    -- what the base reads of what the slot holds, the page reads
    back : number ≤ most_number → length page ≤ most_slots → place < length page → 2 * t < number
        → (z : ℕ) × (tried : ℕ) × (page_reads s number page place t ≡ answer (w ∷ z ∷ tried ∷ []))
    back most slots there near =
        let q = reads-back s number far ok w _ _ x d base noise t low few (omega (arith, most, near)) near in
        (q.0, q.1, read-is-base s number page place t (omega (arith, near), most) slots there near ∙ ap (λ (y : ℕ). reads s y t) holds ∙ q.2)

    -- an answer says that the radius doubled is below the number
    right : (m z tried : ℕ) → page_reads s number page place t ≡ answer (m ∷ z ∷ tried ∷ []) → m ≡ w
    right m z tried e =
        let p = (page-read-told s number page place t (answer (m ∷ z ∷ tried ∷ [])) refl refl refl refl refl refl).0 e in
        let q = back p.1.1 p.2 p.3.0 p.3.3.0 in
        let same : answer (m ∷ z ∷ tried ∷ []) ≡ answer (w ∷ q.0 ∷ q.1 ∷ []) = sym e ∙ q.2 in cc same

  -- demand 3: "what was written, then disturbed in at most t cells, reads back at radius t, for t up to 4 with 2t below d1": request 6 has it "on pages,
  -- with the number in the place of d1, for any number that is at most the true d1". A number is at most 9, so that t is up to 4
  module _ (d1 : ℕ) (D : D1 s d1) (most : number ≤ d1) where
    pub page-reads-back : number ≤ most_number → length page ≤ most_slots → place < length page → 2 * t < number
        → (z : ℕ) × (tried : ℕ) × (page_reads s number page place t ≡ answer (w ∷ z ∷ tried ∷ []))
    page-reads-back = back (λ c h. omega (arith, D.none-lighter c h))

    -- so a page read that answers gives no other message
    pub page-reads-right : (m z tried : ℕ) → page_reads s number page place t ≡ answer (m ∷ z ∷ tried ∷ []) → m ≡ w
    page-reads-right = right (λ c h. omega (arith, D.none-lighter c h))

  -- the same with the cap plus 1 where d1 is more than the cap
  pub page-more-reads-back : (cap tried half : ℕ) → measures_d1 s cap ≡ more (tried ∷ half ∷ []) → number ≤ cap + 1
      → number ≤ most_number → length page ≤ most_slots → place < length page → 2 * t < number
      → (z : ℕ) × (tried : ℕ) × (page_reads s number page place t ≡ answer (w ∷ z ∷ tried ∷ []))
  page-more-reads-back cap tried half m most = back (λ c h. omega (arith, (more-d1 s cap tried half m).0.far c h))
