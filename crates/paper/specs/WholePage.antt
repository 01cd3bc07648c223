-- A whole page at once: change request 7, "a whole-page write whose results equal the single writes made in slot order".
use Rattle.std.specs.Prelude.{Bool, ◌&&◌, List, [], eqb, length, get_or}
use Prim.Native.Nat.{ℕ, zero, suc}
use Rattle.std.proofs.Math.ListN.{set}
use Rattle.paper.specs.Refusals.{Told, answer, more, refusal, leaves, unless}
use Rattle.paper.specs.Sheet.{Sheet}
use Rattle.paper.specs.Page.{few_slots, few_records, paged, page_writes, page_after_write}
use Rattle.paper.specs.declared.StuckCell.{StuckCell}

-- "Messages and notes have one entry a slot"
abbrev pub one_each_slot : List ℕ → List ℕ → List ℕ → Bool
one_each_slot page messages notes = eqb (length messages) (length page) && eqb (length notes) (length page)

-- what writing the whole page answers: "refusals that concern the sheet or page stop it", and "any other length is refusal 25, after 13"
unfoldable pub whole_writes : Sheet → ℕ → List ℕ → List StuckCell → List ℕ → List ℕ → Told
unfolding paged
whole_writes s number page records messages notes =
    paged s number (few_slots page && few_records records) (unless (one_each_slot page messages notes) 25 (answer []))

-- "A written slot's note is 0, any other's its refusal number alone."
abbrev pub note : Told → ℕ
note (answer values) = 0
note (more values) = 0
note (refusal number given) = number

module _ (s : Sheet) (number : ℕ) (page : List ℕ) (records : List StuckCell) (messages : List ℕ) where
  -- the page after "the single writes made in slot order" of the slots below i, each on the page that the last one left
  unfoldable pub page_through : ℕ → List ℕ
  unfolding page_writes
  page_through zero = page
  page_through (suc i) = page_after_write (page_writes s number (page_through i) records i (get_or messages i 0)) (page_through i) i

  -- the notes after them: "a refusal for one slot is noted in a lent list and that slot is left as it was"
  unfoldable pub notes_through : List ℕ → ℕ → List ℕ
  unfolding page_writes page_through
  notes_through notes zero = notes
  notes_through notes (suc i) = set (notes_through notes i) i (note (page_writes s number (page_through i) records i (get_or messages i 0)))

  -- what page and notes hold after the call: those of all slots, or what they held, since refusals that concern the sheet or page "stop it before any change to page or list"
  abbrev pub whole_page : List ℕ → List ℕ
  whole_page notes = leaves (whole_writes s number page records messages notes) (page_through (length page)) page

  abbrev pub whole_notes : List ℕ → List ℕ
  whole_notes notes = leaves (whole_writes s number page records messages notes) (notes_through notes (length page)) notes
