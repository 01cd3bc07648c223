-- A page of names: change request 1, and its plate number: change request 6.
use Rattle.std.specs.Prelude.{Bool, false, cond, not, ◌&&◌, ◌||◌, List, [], ◌∷◌, ℕ, ◌*◌, ◌^◌, eqb, leb, ltb, length, get_or, take, set}
use Rattle.std.specs.Int.Bits.{bit_or}
use Rattle.paper.specs.First.{First, first}
use Rattle.paper.specs.Words.{width}
use Rattle.paper.specs.Refusals.{Told, answer, more, refusal, unless, unless_at}
use Rattle.paper.specs.Sheet.{Sheet, judged}
use Rattle.paper.specs.Writing.{fitting, chosen}
use Rattle.paper.specs.Reading.{most_radius, stray_cell, nearest, heard}
use Rattle.paper.specs.Plate.{most_cap, measures_d1}
use Rattle.paper.specs.declared.StuckCell.{StuckCell}

-- "One page holds up to 2,048 words under one sheet"
abbrev pub most_slots : ℕ
most_slots = 2048

-- "The stuck cells arrive as a list of records, each naming slot, cell and level, up to 256 of them."
abbrev pub most_records : ℕ
most_records = 256

-- "this slot's records", in their order
abbrev pub records_of : ℕ → List StuckCell → List StuckCell
records_of slot [] = []
records_of slot (r ∷ rs) = cond (eqb r.slot slot) (r ∷ records_of slot rs) (records_of slot rs)

-- the record r "disagrees with an earlier record for this slot and cell": one of them has the same cell and another level
abbrev pub disagrees : List StuckCell → StuckCell → Bool
disagrees [] r = false
disagrees (e ∷ earlier) r = (eqb e.cell r.cell && not (eqb e.level r.level)) || disagrees earlier r

-- 15: "a record for this slot names a cell at n or above, has a level other than 0 or 1, or disagrees with an earlier record for this slot and cell"
abbrev pub breaks : ℕ → List StuckCell → StuckCell → Bool
breaks n earlier r = leb n r.cell || (leb 2 r.level || disagrees earlier r)

-- what stands in for a record where there is none
abbrev pub no_record : StuckCell
no_record = record { slot = 0; cell = 0; level = 0 }

-- "the place, from 0 among this slot's records, of the first that breaks the rule"
unfoldable pub first_broken : ℕ → List StuckCell → First
unfolding first
first_broken n rs = first (length rs) (λ i. breaks n (take i rs) (get_or rs i no_record))

-- the cells that the records rs name: "Equal records count once"
abbrev pub stuck_by : List StuckCell → ℕ
stuck_by [] = 0
stuck_by (r ∷ rs) = bit_or (2 ^ r.cell) (stuck_by rs)

-- and the level at each of them
abbrev pub levels_by : List StuckCell → ℕ
levels_by [] = 0
levels_by (r ∷ rs) = bit_or (r.level * 2 ^ r.cell) (levels_by rs)

-- request 6: "A page now carries its plate number: d1 as 1 to 8, or 9 for "more than 8"."
abbrev pub most_number : ℕ
most_number = 9

-- the number, of what measuring d1 told
abbrev pub plate_number : Told → Told
plate_number (answer values) = answer (get_or values 0 0 ∷ [])
plate_number (more values) = answer (most_number ∷ [])
plate_number (refusal number given) = refusal number given

-- what opening a page answers: "Opening a page, by the sheet alone, measures with cap 8 and gives that number."
unfoldable pub opens : Sheet → Told
unfolding measures_d1
opens s = plate_number (measures_d1 s most_cap)

-- 16: "A number outside 1 to 9"
abbrev pub numbered : ℕ → Bool
numbered number = leb 1 number && leb number most_number

-- 1 to 6, then 16 "for every call on the page, straight after 6", then 13 unless slots and records are few enough: "Order: 1 to 6, 13, .."
unfoldable pub paged : Sheet → ℕ → Bool → Told → Told
unfolding judged
paged s number few next = judged s (unless (numbered number) 16 (unless few 13 next))

-- 13: "more than 256 records or 2,048 slots"; a read "gives 13 for slots only"
abbrev pub few_slots : List ℕ → Bool
few_slots page = leb (length page) most_slots

abbrev pub few_records : List StuckCell → Bool
few_records records = leb (length records) most_records

-- "15, then 7 and 9": the slot whose records are rs, on an admitted sheet
unfoldable pub slot_writes : Sheet → List StuckCell → ℕ → Told
unfolding first first_broken
slot_writes s rs w =
    unless_at (first_broken s.n rs) 15 0 (unless (ltb w (2 ^ s.k)) 7 (chosen s w (fitting s w (stuck_by rs) (levels_by rs))))

-- what writing message w to a slot answers: "1 to 6, 13, 14, 15, then 7 and 9"; "records for other slots are not judged"
unfoldable pub page_writes : Sheet → ℕ → List ℕ → List StuckCell → ℕ → ℕ → Told
unfolding paged slot_writes
page_writes s number page records slot w =
    paged s number (few_slots page && few_records records) (unless (ltb slot (length page)) 14 (slot_writes s (records_of slot records) w))

-- the page after a write that told this: "A refused call .. changes nothing lent, and a write changes only its slot."
abbrev pub page_after_write : Told → List ℕ → ℕ → List ℕ
page_after_write (answer values) page slot = set page slot (get_or values 0 0)
page_after_write (more values) page slot = page
page_after_write (refusal number given) page slot = page

-- a slot that holds y, on an admitted sheet: 10, 11, and "A page read whose radius doubled is not below the number is refusal 16, after 11 and before 12."
unfoldable pub slot_reads : Sheet → ℕ → ℕ → ℕ → Told
unfolding first nearest
slot_reads s number y t =
    unless_at (first width (stray_cell s.n y)) 10 0 (unless (leb t most_radius) 11 (unless (ltb (2 * t) number) 16 (heard s y (nearest s y t))))

-- what reading a slot at radius t answers: "a read also gives 10 after 14, doesn't see the records, and gives 13 for slots only"
unfoldable pub page_reads : Sheet → ℕ → List ℕ → ℕ → ℕ → Told
unfolding paged slot_reads
page_reads s number page slot t =
    paged s number (few_slots page) (unless (ltb slot (length page)) 14 (slot_reads s number (get_or page slot 0) t))
