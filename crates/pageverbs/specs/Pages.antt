-- Pages: the calls on a page, by the numbers of their lines, and the text of a write's answer.
use Rattle.std.specs.Prelude.{List, ◌++◌, ℕ, ◌+◌}
use Rattle.paper.specs.Page.{page_writes, page_after_write, page_reads}
use Rattle.paper.specs.Refusals.{Told}
use Rattle.text.specs.Bytes.{bytes}
use Rattle.lines.specs.Arguments.{at, sheet_in, arg}
use Rattle.answers.specs.Answers.{spoken, listed}
use Rattle.rooms.specs.Lent.{page_end, page_in, records_in, records_end}

-- what `pwrite SHEET number LIST RECS slot message` tells
abbrev pub page_written : List ℕ → Told
page_written ns = page_writes (sheet_in ns) (arg ns 0) (page_in ns) (records_in ns) (at ns (records_end ns)) (at ns (records_end ns + 1))

-- the page after it
abbrev pub page_left : List ℕ → List ℕ
page_left ns = page_after_write (page_written ns) (page_in ns) (at ns (records_end ns))

-- the text of its answer, which ends with that page
abbrev pub pwrite_text : List ℕ → List ℕ
pwrite_text ns = spoken (bytes "word | d ") (page_written ns) ++ listed (bytes " page ") (page_left ns)

-- what `pread SHEET number LIST slot radius` tells
abbrev pub page_reading : List ℕ → Told
page_reading ns = page_reads (sheet_in ns) (arg ns 0) (page_in ns) (at ns (page_end ns)) (at ns (page_end ns + 1))
