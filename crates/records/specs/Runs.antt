-- A run of slots: those that are gathered in one pass over the records.
use Rattle.std.specs.Prelude.{ℕ}

-- how many there are
abbrev pub run : ℕ
run = 128
