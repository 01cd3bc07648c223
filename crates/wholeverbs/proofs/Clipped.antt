-- What the write of a whole page tells and leaves of a line's page and records that are clipped at one more than there may be is what it tells and leaves of them as they stand.
-- For `write_whole`, whose rooms hold no more. Assumes nothing.
use mathlib.Core.Path.{◌≡◌, ap, ap₂, ◌∙◌}
use mathlib.Core.List.{List}
use Prim.Native.Nat.{ℕ, ◌+◌, ◌≤◌, min}
use native.Mathlib.Omega.{arith}
use lib.ListN.{length, take, length-take}
use lib.Seq.{take_all}
use Rattle.paper.specs.Page.{most_slots}
use Rattle.paper.specs.WholePage.{whole_writes, whole_page, whole_notes}
use Rattle.paper.specs.Sheet.{Sheet}
use Rattle.paper.specs.declared.StuckCell.{StuckCell}
use Rattle.opening.proofs.Crowded.{clipped}
use Rattle.whole.proofs.Clipped.{slots-told, records-told, records-page, records-notes, crowded-notes}
use Rattle.lines.specs.Arguments.{at, sheet_in, arg}
use Rattle.rooms.specs.Lent.{room_slots, room_records, page_end, page_in, records_from, records_in}
use Rattle.rooms.proofs.Lists.{records-clipped}
use Rattle.wholeverbs.specs.Wholes.{messages_in, notes_in, whole_written, page_left, notes_left}

-- what is lent of a line: its sheet, the first of its slots and records, its messages, and the room for notes
pub record Lends (s : Sheet) (ns page : List ℕ) (records : List StuckCell) (messages notes : List ℕ) : Type 0 where
  pub sheet_is : s ≡ sheet_in ns
  pub page_is : page ≡ take room_slots (page_in ns)
  pub records_are : records ≡ take room_records (records_in ns)
  pub messages_are : messages ≡ messages_in ns
  pub notes_are : notes ≡ notes_in ns

-- the records that are held are the first
pub first-records : (ns : List ℕ) (records : List StuckCell) (held : ℕ) → held ≡ min (at ns (page_end ns)) room_records
    → records ≡ records_from held (page_end ns + 1) ns → records ≡ take room_records (records_in ns)
first-records ns records held e r = r ∙ records-clipped held (at ns (page_end ns)) room_records (page_end ns + 1) ns e

module _ {s : Sheet} {ns page : List ℕ} {records : List StuckCell} {messages notes : List ℕ} (lent : Lends s ns page records messages notes) where
  -- what is said of it is said of the line
  of-line : {A : Type 0} (f : Sheet → List ℕ → List StuckCell → List ℕ → List ℕ → A)
      → f s page records messages notes ≡ f (sheet_in ns) (take room_slots (page_in ns)) (take room_records (records_in ns)) (messages_in ns) (notes_in ns)
  of-line f =
      ap₂ (λ (x : Sheet) (y : List ℕ). f x y records messages notes) lent.sheet_is lent.page_is
      ∙ ap₂ (λ (x : List StuckCell) (y : List ℕ). f (sheet_in ns) (take room_slots (page_in ns)) x y notes) lent.records_are lent.messages_are
      ∙ ap (f (sheet_in ns) (take room_slots (page_in ns)) (take room_records (records_in ns)) (messages_in ns)) lent.notes_are

  -- what is told, the page where it is not clipped, and the notes
  pub told-clipped : whole_writes s (arg ns 0) page records messages notes ≡ whole_written ns
  told-clipped =
      of-line (λ x p rs ms qs. whole_writes x (arg ns 0) p rs ms qs)
      ∙ slots-told (sheet_in ns) (arg ns 0) (messages_in ns) (notes_in ns) (page_in ns) (take room_records (records_in ns))
      ∙ records-told (sheet_in ns) (arg ns 0) (messages_in ns) (notes_in ns) (page_in ns) (records_in ns)

  pub page-clipped : length page ≤ most_slots → whole_page s (arg ns 0) page records messages notes ≡ page_left ns
  page-clipped few =
      of-line (λ x p rs ms qs. whole_page x (arg ns 0) p rs ms qs)
      ∙ records-page (sheet_in ns) (arg ns 0) (messages_in ns) (notes_in ns) (take room_slots (page_in ns)) (records_in ns)
      ∙ ap (λ (p : List ℕ). whole_page (sheet_in ns) (arg ns 0) p (records_in ns) (messages_in ns) (notes_in ns))
      (take_all room_slots (page_in ns) (omega (arith, few, ap length lent.page_is, length-take room_slots (page_in ns))))

  pub notes-clipped : whole_notes s (arg ns 0) page records messages notes ≡ notes_left ns
  notes-clipped =
      of-line (λ x p rs ms qs. whole_notes x (arg ns 0) p rs ms qs)
      ∙ records-notes (sheet_in ns) (arg ns 0) (messages_in ns) (notes_in ns) (take room_slots (page_in ns)) (records_in ns)
      ∙ clipped most_slots (page_in ns) (λ p. whole_notes (sheet_in ns) (arg ns 0) p (records_in ns) (messages_in ns) (notes_in ns)) (notes_in ns)
      (λ p. crowded-notes (sheet_in ns) (arg ns 0) (messages_in ns) (notes_in ns) p (records_in ns))
