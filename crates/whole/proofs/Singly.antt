-- Past the rules of sheet and page, the writes slot after slot are "the single writes made in slot order": each tells what the single write of its slot tells, on the page that the last one left.
-- For the contract of the whole-page write. Assumes nothing.
use mathlib.Core.Path.{◌≡◌, refl, sym, ap, ap₂, ◌∙◌}
use mathlib.Core.Bool.{Bool, ◌&&◌}
use mathlib.Core.List.{List}
use Prim.Native.Nat.{ℕ, zero, suc, ◌≤◌, ◌<◌}
use native.Mathlib.Omega.{arith}
use borrow.Author.Tests.{lt-ltb}
use lib.Dec.{leb, ltb}
use lib.ListN.{length, get_or, set, length-set}
use Rattle.paper.specs.Page.{most_slots, records_of, few_slots, few_records, paged, slot_writes, page_writes, page_after_write}
use Rattle.paper.specs.WholePage.{note, page_through, notes_through}
use Rattle.paper.specs.Refusals.{Told, unless}
use Rattle.paper.specs.Sheet.{Sheet}
use Rattle.paper.specs.declared.StuckCell.{StuckCell}
use Rattle.rules.proofs.Rooms.{length-kept}
use Rattle.sheet.specs.Sound.{Sound}
use Rattle.page.proofs.Slots.{puts-slot}
use Rattle.whole.specs.Slots.{slot_told, page_of, notes_of}

module _ (s : Sheet) (number : ℕ) (page : List ℕ) (records : List StuckCell) (messages : List ℕ) where
  -- the lengths stay
  pub page-length : (i : ℕ) → length (page_through s number page records messages i) ≡ length page
  unfolding page_through
  page-length zero = refl
  page-length (suc i) =
      let q = page_through s number page records messages i in length-kept q i (page_writes s number q records i (get_or messages i 0)) ∙ page-length i

  pub notes-length : (notes : List ℕ) (i : ℕ) → length (notes_through s number page records messages notes i) ≡ length notes
  unfolding notes_through
  notes-length notes zero = refl
  notes-length notes (suc i) = length-set (notes_through s number page records messages notes i) i _ ∙ notes-length notes i

  module _ (ok : Sound s) (passed : (next : Told) → paged s number (few_slots page && few_records records) next ≡ next) where
    -- what the single write of a slot tells, on any page of this length
    single-told : (q : List ℕ) → length q ≡ length page → (i : ℕ) → i < length page
        → page_writes s number q records i (get_or messages i 0) ≡ slot_told s records messages i
    unfolding page_writes
    single-told q e i l =
        let w = get_or messages i 0 in
        let write : Told = slot_writes s (records_of i records) w in
        ap (λ (m : ℕ). paged s number (leb m most_slots && few_records records) (unless (ltb i m) 14 write)) e
        ∙ passed (unless (ltb i (length page)) 14 write) ∙ ap (λ (b : Bool). unless b 14 write) (lt-ltb i (length page) l) ∙ sym (puts-slot s ok records i w)

    -- so page and notes are those of the single writes
    pub page-singly : (i : ℕ) → i ≤ length page → page_of (slot_told s records messages) page i ≡ page_through s number page records messages i
    unfolding page_of page_through
    page-singly zero l = refl
    page-singly (suc i) l =
        let q = page_through s number page records messages i in
        ap₂ (λ (t : Told) (p : List ℕ). page_after_write t p i) (sym (single-told q (page-length i) i (omega arith))) (page-singly i (omega arith))

    pub notes-singly : (notes : List ℕ) (i : ℕ) → i ≤ length page
        → notes_of (slot_told s records messages) notes i ≡ notes_through s number page records messages notes i
    unfolding notes_of notes_through
    notes-singly notes zero l = refl
    notes-singly notes (suc i) l =
        let q = page_through s number page records messages i in
        ap₂ (λ (t : Told) (p : List ℕ). set p i (note t)) (sym (single-told q (page-length i) i (omega arith))) (notes-singly notes i (omega arith))
