-- The starred cases of document 01, and the sheet with d1 = 4 of document 02: one table of calls and what they tell, and one claim over its rows,
-- of the definitions. So a reader sees the definitions answer as the documents say. Assumes nothing.
use mathlib.Core.Path.{◌≡◌, refl}
use mathlib.Core.Bool.{cond}
use mathlib.Core.List.{List, [], ◌∷◌, map}
use Prim.Native.Nat.{ℕ}
use lib.Count.{ones}
use Rattle.paper.specs.First.{first}
use Rattle.paper.specs.Listing.{listed, weights, search}
use Rattle.paper.specs.Words.{products, sum, ◌⊕◌}
use Rattle.paper.specs.Refusals.{Told, answer, more, refusal}
use Rattle.paper.specs.Sheet.{Sheet, sheet, judged_sums, judged_rows, judged}
use Rattle.paper.specs.Writing.{word_of, fits, writes_admitted, writes}
use Rattle.paper.specs.Reading.{nearest, reads_admitted, reads}
use Rattle.paper.specs.Plate.{search_d0, search_d1, measures_admitted_d0, measures_admitted_d1, measures_d0, measures_d1}

-- "Kitchen sheet: n 7, k 3, l 1, r 3; rows 49, 82, 100, 127, 27, 45, 78, 9, 10, 12."
abbrev pub kitchen : Sheet
kitchen = sheet 7 3 1 (49 ∷ 82 ∷ 100 ∷ 127 ∷ 27 ∷ 45 ∷ 78 ∷ 9 ∷ 10 ∷ 12 ∷ [])

-- "Attic sheet: n 3, k 1, l 2, r 0; rows 1, 3, 5, 7."
abbrev pub attic : Sheet
attic = sheet 3 1 2 (1 ∷ 3 ∷ 5 ∷ 7 ∷ [])

-- document 02, request 3: "Add a bench case with d1 = 4."
abbrev pub cellar : Sheet
cellar = sheet 8 3 1 (177 ∷ 210 ∷ 228 ∷ 255 ∷ 27 ∷ 45 ∷ 78 ∷ 135 ∷ 9 ∷ 10 ∷ 12 ∷ [])

-- a call
pub data Call : Type 0 where
  write : Sheet → ℕ → ℕ → ℕ → Call
  read : Sheet → ℕ → ℕ → Call
  d0 : Sheet → ℕ → Call
  d1 : Sheet → ℕ → Call
  -- no call, but what the attic's case says beside one: the word of a message and a d, and whether it fits (1) or not (0)
  word : Sheet → ℕ → ℕ → ℕ → ℕ → Call

-- what the definition of a call tells
unfoldable pub outcome : Call → Told
outcome (write s message stuck levels) = writes s message stuck levels
outcome (read s y radius) = reads s y radius
outcome (d0 s cap) = measures_d0 s cap
outcome (d1 s cap) = measures_d1 s cap
outcome (word s message stuck levels d) = answer (word_of s message d ∷ cond (fits stuck levels (word_of s message d)) 1 0 ∷ [])

-- a row of the table
pub record Case : Type 0 where
  pub call : Call
  pub told : Told

infix 70 ◌gives◌
unfoldable pub ◌gives◌ : Call → Told → Case
call gives told = record { call = call; told = told }

-- those marked * in document 01, in its order; then the cellar: 85 with cell 0 turned over is put right at the printed radius, and with cells 0 and 4
-- turned over, 68, it is misread at radius 2, which half of d1 would print
pub cases : List Case
cases =
    write kitchen 5 0 0 gives answer (85 ∷ 0 ∷ [])
    ∷ write kitchen 5 1 0 gives answer (42 ∷ 1 ∷ [])
    ∷ write kitchen 5 3 1 gives answer (85 ∷ 0 ∷ [])
    ∷ write kitchen 5 3 0 gives refusal 9 []
    ∷ d0 kitchen 8 gives answer (2 ∷ 8 ∷ [])
    ∷ d0 kitchen 1 gives more (7 ∷ [])
    ∷ d1 kitchen 8 gives answer (3 ∷ 29 ∷ 1 ∷ [])
    ∷ d1 kitchen 2 gives more (28 ∷ 1 ∷ [])
    ∷ read kitchen 21 1 gives answer (5 ∷ 64 ∷ 8 ∷ [])
    ∷ read kitchen 21 0 gives refusal 12 (1 ∷ [])
    ∷ read kitchen 86 1 gives answer (2 ∷ 4 ∷ 4 ∷ [])
    ∷ write attic 1 1 0 gives answer (2 ∷ 1 ∷ [])
    ∷ word attic 1 1 0 2 gives answer (4 ∷ 1 ∷ [])
    ∷ write attic 1 7 0 gives refusal 9 []
    ∷ write attic 0 7 0 gives answer (0 ∷ 0 ∷ [])
    ∷ d0 attic 8 gives answer (3 ∷ 7 ∷ [])
    ∷ d1 attic 8 gives answer (1 ∷ 1 ∷ 0 ∷ [])
    ∷ d1 cellar 8 gives answer (4 ∷ 95 ∷ 1 ∷ [])
    ∷ d1 cellar 3 gives more (92 ∷ 1 ∷ [])
    ∷ write cellar 5 0 0 gives answer (85 ∷ 0 ∷ [])
    ∷ read cellar (85 ⊕ 1) 1 gives answer (5 ∷ 1 ∷ 2 ∷ [])
    ∷ read cellar (85 ⊕ 17) 2 gives answer (1 ∷ 10 ∷ 14 ∷ [])
    ∷ []

-- every row of the table holds
pub bench : map (λ (row : Case). outcome row.call) cases ≡ map (λ (row : Case). row.told) cases
unfolding outcome ◌gives◌ cases writes writes_admitted reads reads_admitted measures_d0 measures_admitted_d0 measures_d1 measures_admitted_d1 search_d0 search_d1 nearest judged judged_rows judged_sums first weights listed search products sum ◌⊕◌ ones
bench = refl
