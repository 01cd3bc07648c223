-- Lines: what a line asks for, by a table of names and shapes.
use Rattle.std.specs.Prelude.{Bool, true, ℕ, zero, suc, ◌+◌, eqb, leb, length, take, bytes_eq, Option, Some, None}
use Rattle.std.proofs.Math.Bool.{cond}
use denote.Ref.{Bor}
use mathlib.Core.List.{List, [], ◌∷◌}
use Rattle.text.specs.Tokens.{cut}
use Rattle.lines.specs.Shapes.{fill, filled}
use Rattle.lines.specs.declared.call.Line.{Line}

-- what a line asks for: the call of a verb, by its number, with the line's numbers; nothing; or what is no call
pub data Asked : Type 0 where
  silent : Asked
  unknown : Asked
  call : ℕ → List ℕ → Asked

-- the most bytes of a call's line, without the newline
abbrev pub room_line : ℕ
room_line = 131071

-- the most numbers of such a line: each has a byte at least, and a space before it
abbrev pub room_numbers : ℕ
room_numbers = 65536

-- an entry of the table, or none
pub data Found : Type 0 where
  nowhere : Found
  at : ℕ → List ℕ → Found

-- the number and the shape of a name in a table of names and shapes in turn, if v stand before it
unfoldable pub lookup : List ℕ → ℕ → List (List ℕ) → Found
lookup name v [] = nowhere
lookup name v (x ∷ []) = nowhere
lookup name v (x ∷ shape ∷ rest) = cond (bytes_eq x name) (at v shape) (lookup name (v + 1) rest)

-- the shape of entry v
abbrev pub shape_at : List (List ℕ) → ℕ → List ℕ
shape_at [] v = []
shape_at (x ∷ []) v = []
shape_at (x ∷ shape ∷ rest) zero = shape
shape_at (x ∷ shape ∷ rest) (suc v) = shape_at rest v

-- a verb with the numbers that fit its shape
abbrev pub called : ℕ → Option (List ℕ) → Asked
called v None = unknown
called v (Some ns) = call v ns

-- "Empty lines and lines that begin with `#` are no calls and get no answer."
abbrev pub is_silent : List ℕ → Bool
is_silent [] = true
is_silent (b ∷ bs) = eqb b 35

-- what a line comes to, if no call comes to `other`, and the call of a verb, by its shape and the tokens behind it, to `known`
module _ {A : Type 0} (other : A) (known : ℕ → List ℕ → List (List ℕ) → A) where
  -- the tokens behind a verb
  abbrev pub known_at : Found → List (List ℕ) → A
  known_at nowhere ts = other
  known_at (at v shape) ts = known v shape ts

  -- a line's tokens: a verb of the table and the numbers of its shape, one or more
  unfoldable pub spelled : List ℕ → List (List ℕ) → A
  unfolding lookup
  spelled table [] = other
  spelled table (verb ∷ []) = other
  spelled table (verb ∷ t ∷ ts) = known_at (lookup verb 0 (cut 32 table)) (t ∷ ts)

  -- a line that ends at its last byte, if one that asks for nothing comes to `nothing`: one that is too long for the room is no call
  unfoldable pub comes : A → List ℕ → List ℕ → A
  unfolding spelled
  comes nothing table line = cond (is_silent line) nothing (cond (leb (length line) room_line) (spelled table (cut 32 line)) other)

-- a line without the carriage return (13) that may be its last byte: it belongs to the end of the line, as in a file with CR LF
abbrev pub trimmed : List ℕ → List ℕ
trimmed [] = []
trimmed (b ∷ []) = cond (eqb b 13) [] (b ∷ [])
trimmed (b ∷ c ∷ bs) = b ∷ trimmed (c ∷ bs)

-- the call of a verb with the numbers that fit its shape
abbrev pub calling : ℕ → List ℕ → List (List ℕ) → Asked
calling v shape ts = called v (fill shape ts)

-- what a line asks for
unfoldable pub asked : List ℕ → List ℕ → Asked
unfolding comes
asked table line = comes unknown calling silent table (trimmed line)

-- the numbers of a call, in the room that is lent for them
abbrev pub storing : List ℕ → ℕ → List ℕ → List (List ℕ) → List ℕ
storing room v shape ts = filled 0 room shape ts

-- what asking leaves in that room
unfoldable pub asked_in : List ℕ → List ℕ → List ℕ → List ℕ
unfolding comes
asked_in table line room = comes room (storing room) room table (trimmed line)

-- ---- what the code's values mean

-- the entry that a search of the table gives
abbrev pub found : Option (ℕ × Bor (List ℕ)) → Found
found (Some entry) = at entry.0 entry.1.now
found None = nowhere

-- what a line asks for, with its numbers in the room
abbrev pub meant : Line → List ℕ → Asked
meant Line.Silent ns = silent
meant Line.Unknown ns = unknown
meant (Line.Call verb count) ns = call verb (take count ns)

-- how many numbers it has
abbrev pub used : Line → ℕ
used Line.Silent = 0
used Line.Unknown = 0
used (Line.Call verb count) = count
