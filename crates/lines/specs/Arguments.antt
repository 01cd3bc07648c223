-- Arguments: what stands where among the numbers of a call, whose line begins with its sheet.
use Rattle.std.specs.Prelude.{List, ℕ, zero, suc, ◌+◌, ◌-◌, get_or, take, drop}
use Rattle.paper.specs.Sheet.{Sheet, sheet}

-- the number at a place
abbrev pub at : List ℕ → ℕ → ℕ
at ns i = get_or ns i 0

-- the numbers from one place to another
abbrev pub part : ℕ → ℕ → List ℕ → List ℕ
part from to ns = take (to - from) (drop from ns)

-- "SHEET n k l LIST", which a line begins with
abbrev pub sheet_in : List ℕ → Sheet
sheet_in ns = sheet (at ns 0) (at ns 1) (at ns 2) (part 4 (4 + at ns 3) ns)

-- the place behind the sheet
abbrev pub behind : List ℕ → ℕ
behind ns = 4 + at ns 3

-- argument i behind the sheet
abbrev pub arg : List ℕ → ℕ → ℕ
arg ns zero = at ns (behind ns)
arg ns (suc i) = at ns (behind ns + suc i)
