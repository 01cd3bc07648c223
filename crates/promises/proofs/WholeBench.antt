-- Worked writes of a whole page: one table of calls, what they tell, and the page and notes that they leave, and one claim over its rows, of the definitions.
-- So a reader sees the definitions answer as request 7 says. Assumes nothing.
use mathlib.Core.Path.{◌≡◌, refl}
use mathlib.Core.List.{List, [], ◌∷◌, map}
use Prim.Native.Nat.{ℕ}
use lib.Count.{ones}
use lib.ListN.{replicate}
use Rattle.paper.specs.First.{first}
use Rattle.paper.specs.Words.{products, sum, ◌⊕◌}
use Rattle.paper.specs.Refusals.{Told, answer, refusal}
use Rattle.paper.specs.Sheet.{Sheet, sheet, judged_sums, judged_rows, judged}
use Rattle.paper.specs.Page.{first_broken, paged, slot_writes, page_writes}
use Rattle.paper.specs.WholePage.{whole_writes, page_through, notes_through, whole_page, whole_notes}
use Rattle.paper.specs.declared.StuckCell.{StuckCell}
use Rattle.promises.proofs.Bench.{kitchen, attic}
use Rattle.promises.proofs.PageBench.{stuck}

-- a call
pub record Call : Type 0 where
  pub s : Sheet
  pub number : ℕ
  pub page : List ℕ
  pub records : List StuckCell
  pub messages : List ℕ
  pub notes : List ℕ

write : Sheet → ℕ → List ℕ → List StuckCell → List ℕ → List ℕ → Call
write s number page records messages notes = record { s = s; number = number; page = page; records = records; messages = messages; notes = notes }

-- what it tells, and the page and notes after it
pub record After : Type 0 where
  pub told : Told
  pub words : List ℕ
  pub noted : List ℕ

pub after : Call → After
after c = record {
  told = whole_writes c.s c.number c.page c.records c.messages c.notes;
  words = whole_page c.s c.number c.page c.records c.messages c.notes;
  noted = whole_notes c.s c.number c.page c.records c.messages c.notes;
}

-- a row of the table
pub record Case : Type 0 where
  pub call : Call
  pub result : After

infix 70 ◌gives◌leaving◌and◌
◌gives◌leaving◌and◌ : Call → Told → List ℕ → List ℕ → Case
call gives told leaving words and noted = record { call = call; result = record { told = told; words = words; noted = noted } }

-- the page of most rows, and notes that nobody cleared
page : List ℕ
page = 1 ∷ 2 ∷ 3 ∷ []

stale : List ℕ
stale = 77 ∷ 77 ∷ 77 ∷ []

pub cases : List Case
cases =
    -- every slot is written, and a stale note is 0 then
    write kitchen 3 page [] (5 ∷ 6 ∷ 7 ∷ []) stale gives answer [] leaving (85 ∷ 54 ∷ 7 ∷ []) and (0 ∷ 0 ∷ 0 ∷ [])
    -- a slot that no word fits and a message too large are noted and left, and the slots after them are written
    ∷ write kitchen 3 page (stuck 0 0 0 ∷ stuck 0 1 0 ∷ []) (5 ∷ 8 ∷ 7 ∷ []) stale gives answer [] leaving (1 ∷ 2 ∷ 7 ∷ []) and (9 ∷ 7 ∷ 0 ∷ [])
    -- 15, by its number alone, before 7
    ∷ write kitchen 3 page (stuck 1 7 0 ∷ stuck 2 0 2 ∷ []) (5 ∷ 8 ∷ 9 ∷ []) stale gives answer [] leaving (85 ∷ 2 ∷ 3 ∷ []) and (0 ∷ 15 ∷ 15 ∷ [])
    -- the slot's own stuck cells; records for no slot of the page are not judged
    ∷ write kitchen 3 page (stuck 9 9 9 ∷ stuck 1 0 0 ∷ []) (5 ∷ 5 ∷ 5 ∷ []) stale gives answer [] leaving (85 ∷ 42 ∷ 85 ∷ []) and (0 ∷ 0 ∷ 0 ∷ [])
    ∷ write attic 1 (7 ∷ 7 ∷ []) (stuck 0 0 0 ∷ stuck 1 0 0 ∷ stuck 1 1 0 ∷ stuck 1 2 0 ∷ []) (1 ∷ 1 ∷ []) (5 ∷ 5 ∷ []) gives answer [] leaving (2 ∷ 7 ∷ []) and (0 ∷ 9 ∷ [])
    -- an empty page
    ∷ write kitchen 3 [] [] [] [] gives answer [] leaving [] and []
    -- 25: messages or notes of another length, and nothing is changed
    ∷ write kitchen 3 page [] (5 ∷ 6 ∷ []) stale gives refusal 25 [] leaving page and stale
    ∷ write kitchen 3 page [] (5 ∷ 6 ∷ 7 ∷ []) (77 ∷ 77 ∷ []) gives refusal 25 [] leaving page and (77 ∷ 77 ∷ [])
    ∷ write kitchen 3 [] [] [] (7 ∷ []) gives refusal 25 [] leaving [] and (7 ∷ [])
    -- 13 before it, 16 before both, and a refused sheet before all
    ∷ write kitchen 3 [] (replicate 257 (stuck 0 0 0)) (5 ∷ []) [] gives refusal 13 [] leaving [] and []
    ∷ write kitchen 0 page (replicate 257 (stuck 0 0 0)) [] stale gives refusal 16 [] leaving page and stale
    ∷ write (sheet 1 1 0 (2 ∷ 1 ∷ [])) 0 page [] [] stale gives refusal 2 (0 ∷ []) leaving page and stale
    ∷ []

-- every row of the table holds
pub whole-bench : map (λ (row : Case). after row.call) cases ≡ map (λ (row : Case). row.result) cases
unfolding after write ◌gives◌leaving◌and◌ cases stuck page stale whole_writes page_through notes_through page_writes slot_writes first_broken paged judged judged_rows judged_sums first products sum ◌⊕◌ ones
whole-bench = refl
