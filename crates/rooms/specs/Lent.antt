-- Lent: what a line lends, by its numbers: its page and records, which stand behind its sheet and its page's number, and rooms.
use Rattle.std.specs.Prelude.{List, [], ◌∷◌, ℕ, zero, suc, ◌+◌, ◌*◌, replicate}
use Rattle.paper.specs.Page.{most_slots, most_records}
use Rattle.paper.specs.declared.StuckCell.{StuckCell}
use Rattle.lines.specs.Arguments.{at, part, behind}

-- the code's rooms: of a page and of records one more than there may be
abbrev pub room_slots : ℕ
room_slots = most_slots + 1

abbrev pub room_records : ℕ
room_records = most_records + 1

-- the place of the page's count: behind the sheet stands the page's number, argument 0
abbrev pub page_at : List ℕ → ℕ
page_at ns = behind ns + 1

-- the place behind the page
abbrev pub page_end : List ℕ → ℕ
page_end ns = page_at ns + 1 + at ns (page_at ns)

-- the page
abbrev pub page_in : List ℕ → List ℕ
page_in ns = part (page_at ns + 1) (page_end ns) ns

-- the record at a place: "slot cell level"
abbrev pub record_at : ℕ → List ℕ → StuckCell
record_at i ns = record { slot = at ns i; cell = at ns (i + 1); level = at ns (i + 2) }

-- as many records from a place on
unfoldable pub records_from : ℕ → ℕ → List ℕ → List StuckCell
records_from zero i ns = []
records_from (suc count) i ns = record_at i ns ∷ records_from count (i + 3) ns

-- "RECS count slot cell level slot cell level ..", behind the page of a write
abbrev pub records_in : List ℕ → List StuckCell
records_in ns = records_from (at ns (page_end ns)) (page_end ns + 1) ns

-- the place behind the records
abbrev pub records_end : List ℕ → ℕ
records_end ns = page_end ns + 1 + 3 * at ns (page_end ns)

-- "ROOM size fill" at a place: lent memory of so many entries, each the fill before the call
abbrev pub room_at : ℕ → List ℕ → List ℕ
room_at i ns = replicate (at ns i) (at ns (i + 1))
