-- Worked calls on pages: one table of calls, what they tell and the page they leave, and one claim each over its rows, of the definitions.
-- So a reader sees the definitions answer as requests 1 and 6 say. Assumes nothing.
use mathlib.Core.Path.{◌≡◌, refl}
use mathlib.Core.List.{List, [], ◌∷◌, map}
use Prim.Native.Nat.{ℕ}
use lib.Count.{ones}
use lib.ListN.{replicate}
use Rattle.paper.specs.First.{first}
use Rattle.paper.specs.Listing.{listed, weights, search}
use Rattle.paper.specs.Words.{products, sum, ◌⊕◌}
use Rattle.paper.specs.Refusals.{Told, answer, refusal}
use Rattle.paper.specs.Sheet.{Sheet, sheet, judged_sums, judged_rows, judged}
use Rattle.paper.specs.Reading.{nearest}
use Rattle.paper.specs.Plate.{search_d1, measures_admitted_d1, measures_d1}
use Rattle.paper.specs.Page.{opens, first_broken, paged, slot_writes, page_writes, page_after_write, slot_reads, page_reads}
use Rattle.paper.specs.declared.StuckCell.{StuckCell}
use Rattle.promises.proofs.Bench.{kitchen, attic, cellar}

-- a call
pub data Call : Type 0 where
  opening : Sheet → Call
  write : Sheet → ℕ → List ℕ → List StuckCell → ℕ → ℕ → Call
  read : Sheet → ℕ → List ℕ → ℕ → ℕ → Call

-- what the definition of a call tells, and the page after it
pub outcome : Call → Told
outcome (opening s) = opens s
outcome (write s number page records slot message) = page_writes s number page records slot message
outcome (read s number page slot radius) = page_reads s number page slot radius

pub left : Call → List ℕ
left (opening s) = []
left (write s number page records slot message) = page_after_write (page_writes s number page records slot message) page slot
left (read s number page slot radius) = page

-- a row of the table
pub record Case : Type 0 where
  pub call : Call
  pub told : Told
  pub after : List ℕ

infix 70 ◌gives◌leaving◌
◌gives◌leaving◌ : Call → Told → List ℕ → Case
call gives told leaving after = record { call = call; told = told; after = after }

-- a record: slot, cell and level
unfoldable pub stuck : ℕ → ℕ → ℕ → StuckCell
stuck slot cell level = record { slot = slot; cell = cell; level = level }

-- a sheet with d1 = 9: message 1 turns over all of nine cells
mast : Sheet
mast = sheet 9 1 0 (511 ∷ 3 ∷ 5 ∷ 9 ∷ 17 ∷ 33 ∷ 65 ∷ 129 ∷ 257 ∷ 1 ∷ [])

-- the page of most rows
page : List ℕ
page = 21 ∷ 86 ∷ 85 ∷ []

pub cases : List Case
cases =
    -- nothing stuck; cell 0 of slot 1 stuck at 0; the same record twice
    write kitchen 3 page [] 1 5 gives answer (85 ∷ 0 ∷ []) leaving (21 ∷ 85 ∷ 85 ∷ [])
    ∷ write kitchen 3 page (stuck 1 0 0 ∷ []) 1 5 gives answer (42 ∷ 1 ∷ []) leaving (21 ∷ 42 ∷ 85 ∷ [])
    ∷ write kitchen 3 page (stuck 1 0 0 ∷ stuck 1 0 0 ∷ []) 1 5 gives answer (42 ∷ 1 ∷ []) leaving (21 ∷ 42 ∷ 85 ∷ [])
    -- "the place, from 0 among this slot's records, of the first that breaks the rule": its cell, its level, an earlier record
    ∷ write kitchen 3 page (stuck 0 0 1 ∷ stuck 0 0 1 ∷ stuck 0 9 0 ∷ []) 0 5 gives refusal 15 (2 ∷ []) leaving page
    ∷ write kitchen 3 page (stuck 1 9 9 ∷ stuck 0 3 1 ∷ stuck 0 6 2 ∷ []) 0 8 gives refusal 15 (1 ∷ []) leaving page
    ∷ write kitchen 3 page (stuck 1 0 0 ∷ stuck 0 0 1 ∷ stuck 0 0 0 ∷ []) 0 5 gives refusal 15 (1 ∷ []) leaving page
    -- "records for other slots are not judged"
    ∷ write kitchen 3 page (stuck 1 9 2 ∷ stuck 0 0 1 ∷ stuck 1 0 0 ∷ []) 0 5 gives answer (85 ∷ 0 ∷ []) leaving (85 ∷ 86 ∷ 85 ∷ [])
    -- 7 and 9
    ∷ write kitchen 3 page [] 0 8 gives refusal 7 [] leaving page
    ∷ write kitchen 3 page (stuck 0 0 0 ∷ stuck 0 1 0 ∷ []) 0 5 gives refusal 9 [] leaving page
    -- 14, also of an empty page; 13 before it; a refused sheet before both
    ∷ write kitchen 3 page (stuck 3 9 0 ∷ []) 3 8 gives refusal 14 [] leaving page
    ∷ write kitchen 3 [] [] 0 0 gives refusal 14 [] leaving []
    ∷ write kitchen 3 [] (replicate 256 (stuck 0 9 0)) 0 8 gives refusal 14 [] leaving []
    ∷ write kitchen 3 [] (replicate 257 (stuck 1 0 0)) 0 8 gives refusal 13 [] leaving []
    ∷ write (sheet 1 1 0 (2147483649 ∷ 1 ∷ [])) 0 (1 ∷ 0 ∷ []) (replicate 257 (stuck 0 0 0)) 7 0 gives refusal 2 (0 ∷ []) leaving (1 ∷ 0 ∷ [])
    -- other sheets
    ∷ write (sheet 9 2 1 (373 ∷ 179 ∷ 415 ∷ 82 ∷ 56 ∷ 17 ∷ 76 ∷ 208 ∷ 328 ∷ 480 ∷ 135 ∷ [])) 1 (91 ∷ 346 ∷ 234 ∷ 415 ∷ 312 ∷ []) (stuck 1 3 0 ∷ []) 2 3
    gives answer (454 ∷ 0 ∷ []) leaving (91 ∷ 346 ∷ 454 ∷ 415 ∷ 312 ∷ [])
    ∷ write (sheet 3 1 2 (2 ∷ 6 ∷ 1 ∷ 6 ∷ [])) 9 (7 ∷ 5 ∷ 1 ∷ 1 ∷ 3 ∷ []) (stuck 0 0 1 ∷ stuck 0 2 0 ∷ []) 0 0 gives answer (1 ∷ 2 ∷ []) leaving (1 ∷ 5 ∷ 1 ∷ 1 ∷ 3 ∷ [])
    -- reads: 14, 10, 11, 12, and what they answer
    ∷ read kitchen 3 page 2 1 gives answer (5 ∷ 0 ∷ 1 ∷ []) leaving page
    ∷ read kitchen 3 page 0 1 gives answer (5 ∷ 64 ∷ 8 ∷ []) leaving page
    ∷ read kitchen 3 page 1 1 gives answer (2 ∷ 4 ∷ 4 ∷ []) leaving page
    ∷ read kitchen 3 page 3 5 gives refusal 14 [] leaving page
    ∷ read kitchen 3 [] 0 0 gives refusal 14 [] leaving []
    ∷ read kitchen 3 (128 ∷ 86 ∷ []) 0 5 gives refusal 10 (7 ∷ []) leaving (128 ∷ 86 ∷ [])
    ∷ read kitchen 3 (128 ∷ 86 ∷ []) 1 5 gives refusal 11 [] leaving (128 ∷ 86 ∷ [])
    ∷ read kitchen 3 page 0 0 gives refusal 12 (1 ∷ []) leaving page
    ∷ read (sheet 7 1 2 (7 ∷ 10 ∷ 112 ∷ 110 ∷ 11 ∷ 91 ∷ 14 ∷ 10 ∷ [])) 9 (104 ∷ 70 ∷ 62 ∷ []) 2 3 gives answer (0 ∷ 68 ∷ 26 ∷ []) leaving (104 ∷ 70 ∷ 62 ∷ [])
    -- request 6: the number that opening gives, of d1 1, 3, 4 and 9, and of a refused sheet
    ∷ opening attic gives answer (1 ∷ []) leaving []
    ∷ opening kitchen gives answer (3 ∷ []) leaving []
    ∷ opening cellar gives answer (4 ∷ []) leaving []
    ∷ opening mast gives answer (9 ∷ []) leaving []
    ∷ opening (sheet 1 1 0 (2 ∷ 1 ∷ [])) gives refusal 2 (0 ∷ []) leaving []
    -- a number outside 1 to 9, before 13 and 14, and behind a refused sheet (above)
    ∷ write kitchen 0 page [] 1 5 gives refusal 16 [] leaving page
    ∷ write kitchen 10 [] (replicate 257 (stuck 1 0 0)) 0 8 gives refusal 16 [] leaving []
    ∷ read kitchen 0 page 3 5 gives refusal 16 [] leaving page
    ∷ read kitchen 10 page 2 1 gives refusal 16 [] leaving page
    -- a radius doubled that is not below the number: behind 14, 10 and 11, before 12
    ∷ read kitchen 2 page 2 1 gives refusal 16 [] leaving page
    ∷ read kitchen 1 (128 ∷ 86 ∷ []) 0 4 gives refusal 10 (7 ∷ []) leaving (128 ∷ 86 ∷ [])
    ∷ read kitchen 8 page 0 5 gives refusal 11 [] leaving page
    ∷ read cellar 2 (68 ∷ []) 0 1 gives refusal 16 [] leaving (68 ∷ [])
    ∷ read cellar 4 (68 ∷ []) 0 1 gives refusal 12 (9 ∷ []) leaving (68 ∷ [])
    ∷ read mast 9 (15 ∷ []) 0 4 gives answer (0 ∷ 15 ∷ 131 ∷ []) leaving (15 ∷ [])
    -- the station's: what was written for 5, two cells turned over, read at radius 2. By d1 it is refused; by a number that is more than d1 it is another village
    ∷ write cellar 4 (0 ∷ []) [] 0 5 gives answer (85 ∷ 0 ∷ []) leaving (85 ∷ [])
    ∷ read cellar 4 (68 ∷ []) 0 2 gives refusal 16 [] leaving (68 ∷ [])
    ∷ read cellar 5 (68 ∷ []) 0 2 gives answer (1 ∷ 10 ∷ 14 ∷ []) leaving (68 ∷ [])
    ∷ []

-- every row of the table holds
pub page-bench : map (λ (row : Case). outcome row.call) cases ≡ map (λ (row : Case). row.told) cases
unfolding outcome ◌gives◌leaving◌ cases stuck page mast opens measures_d1 measures_admitted_d1 search_d1 page_writes page_reads slot_reads slot_writes first_broken paged nearest judged judged_rows judged_sums first weights listed search products sum ◌⊕◌ ones
page-bench = refl

pub page-bench-left : map (λ (row : Case). left row.call) cases ≡ map (λ (row : Case). row.after) cases
unfolding left ◌gives◌leaving◌ cases stuck page page_writes slot_writes first_broken paged judged judged_rows judged_sums first products sum ◌⊕◌ ones
page-bench-left = refl
