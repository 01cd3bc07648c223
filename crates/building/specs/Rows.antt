-- The rows of the sheet that is built, one by one, as the code makes them: each part's formula, row by row. Only private functions' contracts speak of these.
use Rattle.std.specs.Prelude.{List, ◌++◌, ℕ, ◌+◌, ◌-◌, ◌^◌, get_or}
use Rattle.paper.specs.Tables.{each, column, times, plus, joined}

-- row i of [I 0 P]
abbrev pub row_g1 : ℕ → ℕ → List ℕ → ℕ → ℕ
row_g1 k l P i = joined k l (2 ^ i) 0 (get_or P i 0)

-- row j of [R I Q]
abbrev pub row_g0 : ℕ → ℕ → List ℕ → List ℕ → ℕ → ℕ
row_g0 k l R Q j = joined k l (get_or R j 0) (2 ^ j) (get_or Q j 0)

-- Q + RP
abbrev pub mixed : List ℕ → List ℕ → List ℕ → List ℕ
mixed P R Q = plus Q (times R P)

-- row c of [Pᵀ (Q + RP)ᵀ I]
abbrev pub row_h : ℕ → ℕ → List ℕ → List ℕ → List ℕ → ℕ → ℕ
row_h k l P R Q c = joined k l (column P c) (column (mixed P R Q) c) (2 ^ c)

-- row i of [I Rᵀ 0]
abbrev pub row_m : ℕ → ℕ → List ℕ → ℕ → ℕ
row_m k l R i = joined k l (2 ^ i) (column R i) 0

-- all of them
abbrev pub rows_of : ℕ → ℕ → ℕ → List ℕ → List ℕ → List ℕ → List ℕ
rows_of n k l P R Q = each k (row_g1 k l P) ++ (each l (row_g0 k l R Q) ++ (each (n - (k + l)) (row_h k l P R Q) ++ each k (row_m k l R)))
