-- Worked calls of request 4: one table of calls, what they tell and what their lent rooms hold after, and one claim each over its rows, of the definitions.
-- So a reader sees the kitchen sheet come of its tables, and a case of 24. Assumes nothing.
use mathlib.Core.Path.{◌≡◌, refl}
use mathlib.Core.List.{List, [], ◌∷◌, map}
use Prim.Native.Nat.{ℕ}
use lib.Count.{ones}
use lib.ListN.{length, replicate}
use Rattle.paper.specs.First.{first}
use Rattle.paper.specs.Words.{products, sum, ◌⊕◌}
use Rattle.paper.specs.Refusals.{Told, answer, refusal, leaves}
use Rattle.paper.specs.Sheet.{Sheet, sheet, judged_sums, judged_rows, judged}
use Rattle.paper.specs.Tables.{each, column, built, builds_sized, builds, table_p, table_r, table_q, gives_admitted, gives}
use Rattle.promises.proofs.Bench.{kitchen, attic}

-- a call: building from P, R and Q in a room, or asking a sheet for its tables, with three rooms
pub data Call : Type 0 where
  build : (n k l : ℕ) → (P R Q room : List ℕ) → Call
  tables : Sheet → (p r q : List ℕ) → Call

-- what the definition of a call tells
pub tells : Call → Told
tells (build n k l P R Q room) = builds n k l P R Q room
tells (tables s p r q) = gives s (length p) (length r) (length q)

-- and what its rooms hold after
pub left : Call → List (List ℕ)
left (build n k l P R Q room) = leaves (builds n k l P R Q room) (built n k l P R Q) room ∷ []
left (tables s p r q) =
    let t = gives s (length p) (length r) (length q) in leaves t (table_p s) p ∷ leaves t (table_r s) r ∷ leaves t (table_q s) q ∷ []

-- a row of the table
pub record Case : Type 0 where
  pub call : Call
  pub told : Told
  pub after : List (List ℕ)

infix 70 ◌gives◌leaving◌
◌gives◌leaving◌ : Call → Told → List (List ℕ) → Case
call gives told leaving after = record { call = call; told = told; after = after }

-- a room of so many rows, each 4
room : ℕ → List ℕ
room size = replicate size 4

pub cases : List Case
cases =
    -- the kitchen sheet of its tables, the attic's (r = 0), and one with l = 0
    build 7 3 1 (3 ∷ 5 ∷ 6 ∷ []) (7 ∷ []) (7 ∷ []) (room 10) gives answer [] leaving (kitchen.rows ∷ [])
    ∷ build 3 1 2 (0 ∷ []) (1 ∷ 1 ∷ []) (0 ∷ 0 ∷ []) (room 4) gives answer [] leaving (attic.rows ∷ [])
    ∷ build 4 2 0 (1 ∷ 3 ∷ []) [] [] (room 6) gives answer [] leaving ((5 ∷ 14 ∷ 7 ∷ 10 ∷ 1 ∷ 2 ∷ []) ∷ [])
    -- wrong sizes: the room, a table, n
    ∷ build 7 3 1 (3 ∷ 5 ∷ 6 ∷ []) (7 ∷ []) (7 ∷ []) (room 9) gives refusal 1 [] leaving (room 9 ∷ [])
    ∷ build 7 3 1 (3 ∷ 5 ∷ []) (7 ∷ []) (7 ∷ []) (room 10) gives refusal 1 [] leaving (room 10 ∷ [])
    ∷ build 0 1 0 (0 ∷ []) [] [] (room 1) gives refusal 1 [] leaving (room 1 ∷ [])
    -- "Stray bits are refusal 2, with the row counted through P, then R, then Q"; with r = 0 every bit of P is one
    ∷ build 7 3 1 (3 ∷ 5 ∷ 8 ∷ []) (8 ∷ []) (8 ∷ []) (room 10) gives refusal 2 (2 ∷ []) leaving (room 10 ∷ [])
    ∷ build 7 3 1 (3 ∷ 5 ∷ 6 ∷ []) (8 ∷ []) (8 ∷ []) (room 10) gives refusal 2 (3 ∷ []) leaving (room 10 ∷ [])
    ∷ build 7 3 1 (3 ∷ 5 ∷ 6 ∷ []) (7 ∷ []) (8 ∷ []) (room 10) gives refusal 2 (4 ∷ []) leaving (room 10 ∷ [])
    ∷ build 1 1 0 (1 ∷ []) [] [] (room 2) gives refusal 2 (0 ∷ []) leaving (room 2 ∷ [])
    -- the tables of the kitchen sheet and of the attic
    ∷ tables kitchen (room 3) (room 1) (room 1) gives answer [] leaving ((3 ∷ 5 ∷ 6 ∷ []) ∷ (7 ∷ []) ∷ (7 ∷ []) ∷ [])
    ∷ tables attic (room 1) (room 2) (room 2) gives answer [] leaving ((0 ∷ []) ∷ (1 ∷ 1 ∷ []) ∷ (0 ∷ 0 ∷ []) ∷ [])
    -- H is not looked at: its first row is the sum of the kitchen's first two
    ∷ tables (sheet 7 3 1 (49 ∷ 82 ∷ 100 ∷ 127 ∷ 54 ∷ 45 ∷ 78 ∷ 9 ∷ 10 ∷ 12 ∷ [])) (room 3) (room 1) (room 1)
    gives answer [] leaving ((3 ∷ 5 ∷ 6 ∷ []) ∷ (7 ∷ []) ∷ (7 ∷ []) ∷ [])
    -- another shape: the attic with G0's rows exchanged, and the kitchen with G1's first row under G0's, which both stay admitted
    ∷ tables (sheet 3 1 2 (1 ∷ 5 ∷ 3 ∷ 7 ∷ [])) (room 1) (room 2) (room 2) gives refusal 24 [] leaving (room 1 ∷ room 2 ∷ room 2 ∷ [])
    ∷ tables (sheet 7 3 1 (78 ∷ 82 ∷ 100 ∷ 127 ∷ 27 ∷ 45 ∷ 78 ∷ 9 ∷ 10 ∷ 12 ∷ [])) (room 3) (room 1) (room 1)
    gives refusal 24 [] leaving (room 3 ∷ room 1 ∷ room 1 ∷ [])
    -- a wrong room is 1, before the sheet's 2; with right rooms it is the sheet's
    ∷ tables (sheet 7 3 1 (128 ∷ 82 ∷ 100 ∷ 127 ∷ 27 ∷ 45 ∷ 78 ∷ 9 ∷ 10 ∷ 12 ∷ [])) (room 2) (room 1) (room 1)
    gives refusal 1 [] leaving (room 2 ∷ room 1 ∷ room 1 ∷ [])
    ∷ tables (sheet 7 3 1 (128 ∷ 82 ∷ 100 ∷ 127 ∷ 27 ∷ 45 ∷ 78 ∷ 9 ∷ 10 ∷ 12 ∷ [])) (room 3) (room 1) (room 1)
    gives refusal 2 (0 ∷ []) leaving (room 3 ∷ room 1 ∷ room 1 ∷ [])
    ∷ []

-- every row of the table holds
pub table-bench : map (λ (row : Case). tells row.call) cases ≡ map (λ (row : Case). row.told) cases
unfolding tells ◌gives◌leaving◌ cases room builds builds_sized gives gives_admitted built each column judged judged_rows judged_sums first products sum ◌⊕◌ ones
table-bench = refl

pub table-bench-left : map (λ (row : Case). left row.call) cases ≡ map (λ (row : Case). row.after) cases
unfolding left ◌gives◌leaving◌ cases room builds builds_sized gives gives_admitted built each column judged judged_rows judged_sums first products sum ◌⊕◌ ones
table-bench-left = refl
