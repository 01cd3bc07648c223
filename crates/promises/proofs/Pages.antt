-- Request 1: "What other slots hold and the records for them never change my answer; only the lengths of page and list do, through 13 and 14", and what a call changes.
-- So stations that share a page do not meet there. The number that request 6 hands in changes an answer through 16 alone. Assumes nothing.
use mathlib.Core.Path.{◌≡◌, refl, sym, ap, ◌∙◌}
use mathlib.Core.List.{List, ◌∷◌, ◌++◌}
use Prim.Native.Nat.{ℕ, ◌*◌, ◌≤◌, ◌<◌}
use borrow.Author.Tests.{le-leb, lt-ltb}
use lib.ListN.{length, get_or}
use lib.Seq.{get_or-set_other}
use Rattle.paper.specs.Refusals.{Told, answer, more, refusal}
use Rattle.paper.specs.Sheet.{Sheet}
use Rattle.paper.specs.Page.{most_slots, most_records, most_number, records_of, paged, page_writes, page_after_write, slot_reads, page_reads}
use Rattle.paper.specs.declared.StuckCell.{StuckCell}
use Rattle.rules.proofs.Both.{both}
use Rattle.rules.proofs.Rooms.{length-kept}
use Rattle.records.proofs.Lists.{records-append, record-other}

-- ---- this slot's records

-- any other record for another slot may stand in the place of one
pub other-record : (slot : ℕ) (rs rs' : List StuckCell) (r r' : StuckCell) → (r.slot ≡ slot → ⊥) → (r'.slot ≡ slot → ⊥)
    → records_of slot (rs ++ r ∷ rs') ≡ records_of slot (rs ++ r' ∷ rs')
other-record slot rs rs' r r' ne ne' =
    records-append slot rs (r ∷ rs')
    ∙ ap (λ (v : List StuckCell). records_of slot rs ++ v) (record-other slot r rs' ne ∙ sym (record-other slot r' rs' ne')) ∙ sym (records-append slot rs (r' ∷ rs'))

-- ---- "never change my answer"

module _ (s : Sheet) (number : ℕ) (page page' : List ℕ) (slot : ℕ) where
  -- a write goes by its slot's records and the two lengths
  pub write-independent : (records records' : List StuckCell) (w : ℕ)
      → length page ≡ length page' → length records ≡ length records' → records_of slot records ≡ records_of slot records'
      → page_writes s number page records slot w ≡ page_writes s number page' records' slot w
  unfolding page_writes
  write-independent records records' w p q e = rw (p, q, e)

  -- a read goes by what its slot holds and the page's length
  pub read-independent : (t : ℕ) → length page ≡ length page' → get_or page slot 0 ≡ get_or page' slot 0 → page_reads s number page slot t ≡ page_reads s number page' slot t
  unfolding page_reads
  read-independent t p e = rw (p, e)

  -- "only the lengths of page and list do, through 13 and 14": past these, the lengths change nothing either
  module _ (few : length page ≤ most_slots) (few' : length page' ≤ most_slots) (there : slot < length page) (there' : slot < length page') where
    pub write-lengths : (records records' : List StuckCell) (w : ℕ)
        → length records ≤ most_records → length records' ≤ most_records → records_of slot records ≡ records_of slot records'
        → page_writes s number page records slot w ≡ page_writes s number page' records' slot w
    unfolding page_writes
    write-lengths records records' w q q' e =
        rw (
          le-leb (length page) most_slots few,
          le-leb (length page') most_slots few',
          le-leb (length records) most_records q,
          le-leb (length records') most_records q',
          lt-ltb slot (length page) there,
          lt-ltb slot (length page') there',
          e,
        )

    pub read-lengths : (t : ℕ) → get_or page slot 0 ≡ get_or page' slot 0 → page_reads s number page slot t ≡ page_reads s number page' slot t
    unfolding page_reads
    read-lengths t e =
        rw (
          le-leb (length page) most_slots few,
          le-leb (length page') most_slots few',
          lt-ltb slot (length page) there,
          lt-ltb slot (length page') there',
          e,
        )

-- ---- the number: past 16, another number changes nothing

module _ (s : Sheet) (number number' : ℕ) (page : List ℕ) (slot : ℕ) (good : (1 ≤ number) × (number ≤ most_number)) (good' : (1 ≤ number') × (number' ≤ most_number)) where
  pub write-numbers : (records : List StuckCell) (w : ℕ) → page_writes s number page records slot w ≡ page_writes s number' page records slot w
  unfolding page_writes paged
  write-numbers records w = rw ((both 1 number number most_number).1 good, (both 1 number' number' most_number).1 good')

  pub read-numbers : (t : ℕ) → 2 * t < number → 2 * t < number' → page_reads s number page slot t ≡ page_reads s number' page slot t
  unfolding page_reads paged slot_reads
  read-numbers t near near' =
      rw (
        (both 1 number number most_number).1 good,
        (both 1 number' number' most_number).1 good',
        lt-ltb (2 * t) number near,
        lt-ltb (2 * t) number' near',
      )

-- ---- what a write changes, whatever it told

module _ (page : List ℕ) (slot : ℕ) where
  -- "a write changes only its slot"
  pub others-kept : (told : Told) (j : ℕ) → (j ≡ slot → ⊥) → get_or (page_after_write told page slot) j 0 ≡ get_or page j 0
  others-kept (answer values) j ne = get_or-set_other page slot j (get_or values 0 0) 0 ne
  others-kept (more values) j ne = refl
  others-kept (refusal number given) j ne = refl

  -- "A refused call .. changes nothing lent"
  pub refused-kept : (told : Told) (number : ℕ) (given : List ℕ) → told ≡ refusal number given → page_after_write told page slot ≡ page
  refused-kept told number given e = ap (λ (t : Told). page_after_write t page slot) e

-- so a station's write to another slot changes no read of this one, and no write
module _ (s : Sheet) (number : ℕ) (page : List ℕ) (j : ℕ) (told : Told) (slot : ℕ) where
  pub read-shared : (slot ≡ j → ⊥) → (t : ℕ) → page_reads s number (page_after_write told page j) slot t ≡ page_reads s number page slot t
  read-shared ne t = read-independent s number (page_after_write told page j) page slot t (length-kept page j told) (others-kept page j told slot ne)

  pub write-shared : (records : List StuckCell) (w : ℕ) → page_writes s number (page_after_write told page j) records slot w ≡ page_writes s number page records slot w
  write-shared records w = write-independent s number (page_after_write told page j) page slot records records w (length-kept page j told) refl refl
