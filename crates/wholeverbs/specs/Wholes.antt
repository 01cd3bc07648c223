-- Wholes: the write of a whole page, by the numbers of its line, and the text of its answer, which ends with the page and the notes.
use Rattle.std.specs.Prelude.{List, ◌++◌, ℕ, ◌+◌}
use Rattle.paper.specs.WholePage.{whole_writes, whole_page, whole_notes}
use Rattle.paper.specs.Refusals.{Told}
use Rattle.text.specs.Bytes.{bytes}
use Rattle.lines.specs.Arguments.{at, part, sheet_in, arg}
use Rattle.answers.specs.Answers.{spoken, listed}
use Rattle.rooms.specs.Lent.{page_in, records_in, records_end, room_at}

-- the place behind the messages, which stand behind the records
abbrev pub messages_end : List ℕ → ℕ
messages_end ns = records_end ns + 1 + at ns (records_end ns)

-- the messages
abbrev pub messages_in : List ℕ → List ℕ
messages_in ns = part (records_end ns + 1) (messages_end ns) ns

-- the room for the notes, behind them
abbrev pub notes_in : List ℕ → List ℕ
notes_in ns = room_at (messages_end ns) ns

-- what `wpage SHEET number LIST RECS LIST ROOM` tells
abbrev pub whole_written : List ℕ → Told
whole_written ns = whole_writes (sheet_in ns) (arg ns 0) (page_in ns) (records_in ns) (messages_in ns) (notes_in ns)

-- the page and the notes after it
abbrev pub page_left : List ℕ → List ℕ
page_left ns = whole_page (sheet_in ns) (arg ns 0) (page_in ns) (records_in ns) (messages_in ns) (notes_in ns)

abbrev pub notes_left : List ℕ → List ℕ
notes_left ns = whole_notes (sheet_in ns) (arg ns 0) (page_in ns) (records_in ns) (messages_in ns) (notes_in ns)

-- what was told, and what page and notes hold
abbrev pub whole_text : Told → List ℕ → List ℕ → List ℕ
whole_text told page notes = spoken (bytes "done") told ++ (listed (bytes " page ") page ++ listed (bytes " notes ") notes)

-- the answer to a line
abbrev pub wpage_text : List ℕ → List ℕ
wpage_text ns = whole_text (whole_written ns) (page_left ns) (notes_left ns)
