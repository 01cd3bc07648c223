-- Tables as they are handed in, as one record: what the code judged of them before it hands them on. Only private functions' contracts speak of it.
use Rattle.std.specs.Prelude.{List, ℕ, length}
use Rattle.paper.specs.Promised.{Fits}
use Rattle.paper.specs.Refusals.{Told}
use Rattle.paper.specs.Sheet.{sheet}
use Rattle.paper.specs.Tables.{Tables, builds_sized}
use Rattle.sheet.specs.Sound.{Shaped}
use Rattle.blocks.specs.Counts.{Counted}

-- the sizes are right, those of the room too: 1 was passed
abbrev pub Sized : List ℕ → Tables → Type 0
Sized room t = Shaped (sheet t.n t.k t.l room) × Counted t.k t.l (length t.P) (length t.R) (length t.Q)

-- tables "of the right sizes", with no stray bits: 2 was passed too
abbrev pub Fit : Tables → Type 0
Fit t = Fits t.n t.k t.l t.P t.R t.Q

-- what building tells past the sizes
abbrev pub builds_sized_of : Tables → Told
builds_sized_of t = builds_sized t.n t.k t.l t.P t.R t.Q
