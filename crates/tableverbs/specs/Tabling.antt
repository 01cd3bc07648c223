-- Tabling: the calls on three small tables, by the numbers of their lines, and the texts of their answers, which end with the lent rooms.
use Rattle.std.specs.Prelude.{List, ◌++◌, ℕ, ◌+◌, length}
use Rattle.paper.specs.Refusals.{Told, leaves}
use Rattle.paper.specs.Sheet.{Sheet}
use Rattle.paper.specs.Tables.{Tables, tables, built_of, builds_of, table_p, table_r, table_q, gives}
use Rattle.text.specs.Bytes.{bytes}
use Rattle.lines.specs.Arguments.{at, part, sheet_in, behind}
use Rattle.answers.specs.Answers.{spoken, listed}
use Rattle.rooms.specs.Lent.{room_at}

-- ---- `tosheet n k l LIST LIST LIST ROOM`

-- the place behind R: P stands where the rows of a sheet do
abbrev pub end_r : List ℕ → ℕ
end_r ns = behind ns + 1 + at ns (behind ns)

-- the place behind Q, where the room stands
abbrev pub end_q : List ℕ → ℕ
end_q ns = end_r ns + 1 + at ns (end_r ns)

-- the tables
abbrev pub line_p : List ℕ → List ℕ
line_p ns = part 4 (behind ns) ns

abbrev pub line_r : List ℕ → List ℕ
line_r ns = part (behind ns + 1) (end_r ns) ns

abbrev pub line_q : List ℕ → List ℕ
line_q ns = part (end_r ns + 1) (end_q ns) ns

-- what building tells of tables, a room being lent, and the room after it: the text of the answer ends with that room
abbrev pub sheet_text : Tables → List ℕ → List ℕ
sheet_text t room =
    let told = builds_of t room in
    spoken (bytes "done") told ++ listed (bytes " room ") (leaves told (built_of t) room)

-- the answer to a line
abbrev pub tosheet_text : List ℕ → List ℕ
tosheet_text ns = sheet_text (tables (at ns 0) (at ns 1) (at ns 2) (line_p ns) (line_r ns) (line_q ns)) (room_at (end_q ns) ns)

-- ---- `totables SHEET ROOM ROOM ROOM`

-- the places of the rooms for R and Q: a room takes two numbers, and the one for P stands behind the sheet
abbrev pub place_r : List ℕ → ℕ
place_r ns = behind ns + 1 + 1

abbrev pub place_q : List ℕ → ℕ
place_q ns = place_r ns + 1 + 1

-- what was told, and what the rooms for P, R and Q hold
abbrev pub rooms_text : Told → List ℕ → List ℕ → List ℕ → List ℕ
rooms_text told p r q = spoken (bytes "done") told ++ (listed (bytes " P ") p ++ (listed (bytes " R ") r ++ listed (bytes " Q ") q))

-- what a sheet tells that is asked for its tables, rooms for P, R and Q being lent
abbrev pub tables_given : Sheet → List ℕ → List ℕ → List ℕ → Told
tables_given s p r q = gives s (length p) (length r) (length q)

-- the text of the answer, which ends with the rooms after it
abbrev pub tables_text : Sheet → List ℕ → List ℕ → List ℕ → List ℕ
tables_text s p r q =
    let told = tables_given s p r q in
    rooms_text told (leaves told (table_p s) p) (leaves told (table_r s) r) (leaves told (table_q s) q)

-- the answer to a line
abbrev pub totables_text : List ℕ → List ℕ
totables_text ns = tables_text (sheet_in ns) (room_at (behind ns) ns) (room_at (place_r ns) ns) (room_at (place_q ns) ns)
