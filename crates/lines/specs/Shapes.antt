-- Shapes: which numbers a line has, and how many.
use Rattle.std.specs.Prelude.{◌≡◌, Bool, cond, List, [], ◌∷◌, ◌++◌, ℕ, zero, suc, ◌+◌, ◌-◌, ◌*◌, ◌%◌, ◌^◌, ◌≤◌, ◌<◌, eqb, length, take, get_or, set, Option, Some, None}
use Rattle.text.specs.Numerals.{numeral}
use Rattle.paper.specs.Words.{width}
use Rattle.lines.specs.declared.shape.Cursor.{Cursor}

-- the most entries of a room that a line may ask for
abbrev pub most_room : ℕ
most_room = 4096

-- the most that the place of a letter holds: `w` (119) a word, `b` (98) 8 bits, `m` (109) the size of a room, any other letter 32 bits
abbrev pub most_of : ℕ → ℕ
most_of letter = cond (eqb letter 119) (2 ^ width - 1) (cond (eqb letter 98) (2 ^ 8 - 1) (cond (eqb letter 109) most_room (2 ^ 32 - 1)))

-- how many items follow the number at a letter: `L` (76) as many, `R` (82) three for each, any other none
abbrev pub items_of : ℕ → ℕ → ℕ
items_of letter x = cond (eqb letter 76) x (cond (eqb letter 82) (3 * x) 0)

-- the place behind a letter's number, x at place i, and its items
abbrev pub next_of : ℕ → ℕ → ℕ → ℕ
next_of letter i x = cond (eqb letter 76) (i + 1 + x) (cond (eqb letter 82) (i + 1 + 3 * x) (i + 1))

-- the letter of an item, with as many left as are to come from it on: a word, or a number of a record, whose third has 8 bits
abbrev pub item_of : Bool → ℕ → ℕ
item_of wide left = cond wide 119 (cond (eqb (left % 3) 1) 98 110)

-- the letters of the items that are left
abbrev pub items : Bool → ℕ → List ℕ
items wide zero = []
items wide (suc left) = item_of wide (suc left) ∷ items wide left

-- the letters of the items behind a letter: words behind `L`
abbrev pub unrolled : ℕ → ℕ → List ℕ
unrolled letter x = items (eqb letter 76) (items_of letter x)

-- a number in front of numbers
abbrev pub joined : ℕ → Option (List ℕ) → Option (List ℕ)
joined x None = None
joined x (Some ns) = Some (x ∷ ns)

-- a number in front of those that its value asks for
abbrev pub before : Option ℕ → (ℕ → Option (List ℕ)) → Option (List ℕ)
before None rest = None
before (Some x) rest = joined x (rest x)

-- the numbers that the tokens are, if they fit the shape: each one's place holds it, none is missing and none is left over
unfoldable pub fill : List ℕ → List (List ℕ) → Option (List ℕ)
fill [] [] = Some []
fill (letter ∷ shape) [] = None
fill [] (t ∷ ts) = None
fill (letter ∷ shape) (t ∷ ts) = before (numeral (most_of letter) t) (λ x. fill (unrolled letter x ++ shape) ts)

-- a number stored at place i of a room, before those that its value asks for
abbrev pub stored : Option ℕ → ℕ → List ℕ → (ℕ → List ℕ → List ℕ) → List ℕ
stored None i room rest = room
stored (Some x) i room rest = rest x (set room i x)

-- what is left in a room: the numbers of the tokens from place i on, up to the first token that does not fit the shape
unfoldable pub filled : ℕ → List ℕ → List ℕ → List (List ℕ) → List ℕ
filled i room [] [] = room
filled i room (letter ∷ shape) [] = room
filled i room [] (t ∷ ts) = room
filled i room (letter ∷ shape) (t ∷ ts) =
    stored (numeral (most_of letter) t) i room (λ x next. filled (i + 1) next (unrolled letter x ++ shape) ts)

-- items of which each is one that its place holds, the first of them at place i
abbrev pub Fits : Bool → ℕ → ℕ → List ℕ → Type 0
Fits wide left i ns = (j : ℕ) → j < left → get_or ns (i + j) 0 ≤ most_of (item_of wide (left - j))

-- the same of records: slot and cell have 32 bits, and the level 8
abbrev pub Records : ℕ → ℕ → List ℕ → Type 0
Records count i ns =
    (j : ℕ) → j < count
    → (get_or ns (i + 3 * j) 0 ≤ 2 ^ 32 - 1) × (get_or ns (i + 3 * j + 1) 0 ≤ 2 ^ 32 - 1) × (get_or ns (i + 3 * j + 2) 0 ≤ 2 ^ 8 - 1)

-- numbers that stand where a shape has them, the first of them at place i: each is there, its place holds it, and so it is with its items
abbrev pub Stands : List ℕ → ℕ → List ℕ → Type 0
Stands [] i ns = i ≡ length ns
Stands (letter ∷ shape) i ns =
    (i < length ns) × (get_or ns i 0 ≤ most_of letter) × (next_of letter i (get_or ns i 0) ≤ length ns)
    × Fits (eqb letter 76) (items_of letter (get_or ns i 0)) (i + 1) ns × Stands shape (next_of letter i (get_or ns i 0)) ns

-- ---- what the code's values mean

-- the numbers that were read, if they are so many
abbrev pub counted : Option ℕ → List ℕ → Option (List ℕ)
counted (Some count) ns = Some (take count ns)
counted None ns = None

-- how many
abbrev pub held : Option ℕ → ℕ
held (Some count) = count
held None = 0

-- the letters that are to come
abbrev pub unread : Cursor → List ℕ
unread c = items c.wide c.left ++ c.letters.now
