-- A page or records of which there are too many are told alike, by the sheet's refusals, 16 or 13, and the page stays as it was.
-- So the code may clip both at one more than there may be. Assumes nothing.
use mathlib.Core.Path.{◌≡◌, sym, ap, ap₂, ◌∙◌}
use mathlib.Core.Bool.{Bool, false, ◌&&◌, and-false}
use mathlib.Core.List.{List, []}
use Prim.Native.Nat.{ℕ, ◌+◌, ◌<◌, min}
use borrow.Author.Tests.{lt-leb}
use lib.ListN.{length, take}
use Rattle.paper.specs.Page.{most_slots, most_records, few_slots, few_records, paged, page_writes, page_after_write}
use Rattle.paper.specs.Refusals.{Told, answer}
use Rattle.paper.specs.Sheet.{Sheet}
use Rattle.paper.specs.declared.StuckCell.{StuckCell}
use Rattle.opening.proofs.Crowded.{crowded-refused}
use Rattle.opening.proofs.Crowded.{clipped as clipped-alike}
use Rattle.lines.specs.Arguments.{at, sheet_in, arg}
use Rattle.rooms.specs.Lent.{room_slots, room_records, page_end, page_in, records_from, records_in, records_end}
use Rattle.rooms.proofs.Lists.{records-clipped}
use Rattle.pageverbs.specs.Pages.{page_written}

module _ (s : Sheet) (number slot w : ℕ) where
  -- too many slots or records are told by the rules of sheet and page alone
  too_many : (page : List ℕ) (records : List StuckCell) → (few_slots page && few_records records) ≡ false
      → page_writes s number page records slot w ≡ paged s number false (answer [])
  unfolding page_writes paged
  too_many page records e = rw e

  many-slots : (page : List ℕ) (records : List StuckCell) → few_slots page ≡ false → page_writes s number page records slot w ≡ paged s number false (answer [])
  many-slots page records e = too_many page records (ap (λ (b : Bool). b && few_records records) e)

  many-records : (page : List ℕ) (records : List StuckCell) → few_records records ≡ false → page_writes s number page records slot w ≡ paged s number false (answer [])
  many-records page records e = too_many page records (ap (λ (b : Bool). few_slots page && b) e ∙ and-false (few_slots page))

  module _ (page : List ℕ) (records : List StuckCell) where
    -- a page and records that are clipped are told as they are
    pub clipped : page_writes s number (take room_slots page) (take room_records records) slot w ≡ page_writes s number page records slot w
    clipped =
        let few = take room_records records in
        let told = paged s number false (answer []) in
        clipped-alike most_slots page (λ p. page_writes s number p few slot w) told (λ p. many-slots p few)
        ∙ clipped-alike most_records records (λ rs. page_writes s number page rs slot w) told (many-records page)

    -- a page of too many slots stays as it was
    pub crowded : most_slots < length page → page ≡ page_after_write (page_writes s number page records slot w) page slot
    crowded h =
        sym (ap (λ (t : Told). page_after_write t page slot) (many-slots page records (lt-leb (length page) most_slots h) ∙ (crowded-refused s number).2 (answer [])))

-- what a line's write is told is told of the first of its slots and records
pub written-clipped : (ns page : List ℕ) {s : Sheet} (records : List StuckCell) (held : ℕ) → s ≡ sheet_in ns → page ≡ take room_slots (page_in ns)
    → held ≡ min (at ns (page_end ns)) room_records → records ≡ records_from held (page_end ns + 1) ns
    → page_writes s (arg ns 0) page records (at ns (records_end ns)) (at ns (records_end ns + 1)) ≡ page_written ns
written-clipped ns page records held own p e r =
    let slot = at ns (records_end ns) in
    let w = at ns (records_end ns + 1) in
    ap (λ (s : Sheet). page_writes s (arg ns 0) page records slot w) own
    ∙ ap₂ (λ (q : List ℕ) (rs : List StuckCell). page_writes (sheet_in ns) (arg ns 0) q rs slot w) p
    (r ∙ records-clipped held (at ns (page_end ns)) room_records (page_end ns + 1) ns e)
    ∙ clipped (sheet_in ns) (arg ns 0) slot w (page_in ns) (records_in ns)
