-- Slots or records of which there are too many stop the whole-page write, and nothing is changed: it tells and leaves the same of a list that is clipped at one more than there may be.
-- For the console, whose rooms for a page and its records have no more. Assumes nothing.
use mathlib.Core.Path.{◌≡◌, ap, ◌∙◌}
use mathlib.Core.Bool.{Bool, false, ◌&&◌, and-false}
use mathlib.Core.List.{List, []}
use Prim.Native.Nat.{ℕ, ◌+◌}
use lib.ListN.{length, take}
use Rattle.paper.specs.Page.{most_slots, most_records, few_slots, few_records, paged}
use Rattle.paper.specs.WholePage.{one_each_slot, whole_writes, page_through, notes_through, whole_page, whole_notes}
use Rattle.paper.specs.Refusals.{Told, answer, leaves, unless}
use Rattle.paper.specs.Sheet.{Sheet}
use Rattle.paper.specs.declared.StuckCell.{StuckCell}
use Rattle.opening.proofs.Crowded.{crowded-alike, crowded-refused, clipped}

module _ (s : Sheet) (number : ℕ) (messages notes : List ℕ) where
  -- too many of either are told by the rules of sheet and page alone
  too_many : (page : List ℕ) (records : List StuckCell) → (few_slots page && few_records records) ≡ false
      → whole_writes s number page records messages notes ≡ paged s number false (answer [])
  unfolding whole_writes
  too_many page records e =
      ap (λ (b : Bool). paged s number b (unless (one_each_slot page messages notes) 25 (answer []))) e ∙ crowded-alike s number (unless (one_each_slot page messages notes) 25 (answer [])) (answer [])

  many-slots : (page : List ℕ) (records : List StuckCell) → few_slots page ≡ false → (few_slots page && few_records records) ≡ false
  many-slots page records e = ap (λ (b : Bool). b && few_records records) e

  many-records : (page : List ℕ) (records : List StuckCell) → few_records records ≡ false → (few_slots page && few_records records) ≡ false
  many-records page records e = ap (λ (b : Bool). few_slots page && b) e ∙ and-false (few_slots page)

  -- and leave what is lent
  left : (page : List ℕ) (records : List StuckCell) → (few_slots page && few_records records) ≡ false → (new old : List ℕ)
      → leaves (whole_writes s number page records messages notes) new old ≡ old
  left page records e new old =
      ap (λ (t : Told). leaves t new old) (too_many page records e ∙ (crowded-refused s number).2 (answer []))

  -- a page of too many slots, and its notes, stay as they were
  module _ (page : List ℕ) (records : List StuckCell) (e : few_slots page ≡ false) where
    pub crowded-page : whole_page s number page records messages notes ≡ page
    crowded-page = left page records (many-slots page records e) (page_through s number page records messages (length page)) page

    pub crowded-notes : whole_notes s number page records messages notes ≡ notes
    crowded-notes = left page records (many-slots page records e) (notes_through s number page records messages notes (length page)) notes

  -- a page that is clipped is told as it is
  pub slots-told : (page : List ℕ) (records : List StuckCell)
      → whole_writes s number (take (most_slots + 1) page) records messages notes ≡ whole_writes s number page records messages notes
  slots-told page records =
      clipped most_slots page (λ p. whole_writes s number p records messages notes) (paged s number false (answer [])) (λ p e. too_many p records (many-slots p records e))

  -- and so are records, and the same is left
  module _ (page : List ℕ) (records : List StuckCell) where
    pub records-told : whole_writes s number page (take (most_records + 1) records) messages notes ≡ whole_writes s number page records messages notes
    records-told =
        clipped most_records records (λ rs. whole_writes s number page rs messages notes) (paged s number false (answer [])) (λ rs e. too_many page rs (many-records page rs e))

    pub records-page : whole_page s number page (take (most_records + 1) records) messages notes ≡ whole_page s number page records messages notes
    records-page =
        clipped most_records records (λ rs. whole_page s number page rs messages notes) page
        (λ rs e. left page rs (many-records page rs e) (page_through s number page rs messages (length page)) page)

    pub records-notes : whole_notes s number page (take (most_records + 1) records) messages notes ≡ whole_notes s number page records messages notes
    records-notes =
        clipped most_records records (λ rs. whole_notes s number page rs messages notes) notes
        (λ rs e. left page rs (many-records page rs e) (notes_through s number page rs messages notes (length page)) notes)
