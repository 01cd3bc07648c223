-- Three small tables in place of a sheet: change request 4.
-- "Our chip man thinks in three small tables: P (k by r), R (l by k), Q (l by r), as in the systematic form of source document 002."
-- A table is the list of its rows, each a word: bit c is column c.
use Rattle.std.specs.Prelude.{Bool, not, ◌&&◌, List, [], ◌∷◌, ◌++◌, map, ℕ, zero, suc, ◌+◌, ◌-◌, ◌*◌, ◌/◌, ◌%◌, ◌^◌, eqb, leb, length, get_or}
use Rattle.paper.specs.First.{first, any}
use Rattle.paper.specs.Words.{cell, sum, ◌⊕◌}
use Rattle.paper.specs.Refusals.{Told, answer, unless, unless_at}
use Rattle.paper.specs.Sheet.{Sheet, sheet, r, G1, G0, shaped, judged}

-- "three small tables: P (k by r), R (l by k), Q (l by r)", for a sheet with numbers n, k and l
pub record Tables : Type 0 where
  pub n : ℕ
  pub k : ℕ
  pub l : ℕ
  pub P : List ℕ
  pub R : List ℕ
  pub Q : List ℕ

-- the tables that a call is handed
abbrev pub tables : ℕ → ℕ → ℕ → List ℕ → List ℕ → List ℕ → Tables
tables n k l P R Q = record { n = n; k = k; l = l; P = P; R = R; Q = Q }

-- ---- the letters of the formulas

-- the rows row 0, row 1, .., `count` of them
unfoldable pub each : ℕ → (ℕ → ℕ) → List ℕ
each zero row = []
each (suc count) row = row 0 ∷ each count (λ i. row (suc i))

-- I, of m rows
abbrev pub identity : ℕ → List ℕ
identity m = each m (λ i. 2 ^ i)

-- 0, of m rows
abbrev pub zeros : ℕ → List ℕ
zeros m = each m (λ i. 0)

-- column c of a table: bit i is bit c of row i
unfoldable pub column : List ℕ → ℕ → ℕ
column [] c = 0
column (row ∷ rows) c = cell row c + 2 * column rows c

-- Tᵀ, for a table T of m columns: row c is column c
abbrev pub transposed : ℕ → List ℕ → List ℕ
transposed m table = each m (column table)

-- RP: row j is the sum of the rows of P that row j of R picks
abbrev pub times : List ℕ → List ℕ → List ℕ
times R P = map (sum P) R

-- Q + S, row by row
abbrev pub plus : List ℕ → List ℕ → List ℕ
plus Q S = each (length Q) (λ j. get_or Q j 0 ⊕ get_or S j 0)

-- the row [a b c]: a in the first k cells, b in the next l, c in those above
abbrev pub joined : ℕ → ℕ → ℕ → ℕ → ℕ → ℕ
joined k l a b c = (c * 2 ^ l + b) * 2 ^ k + a

-- [A B C], row by row
abbrev pub blocks : ℕ → ℕ → List ℕ → List ℕ → List ℕ → List ℕ
blocks k l A B C = each (length A) (λ i. joined k l (get_or A i 0) (get_or B i 0) (get_or C i 0))

-- ---- "Given them, build the whole sheet"

-- "G1 = [I 0 P]"
abbrev pub built_g1 : ℕ → ℕ → List ℕ → List ℕ
built_g1 k l P = blocks k l (identity k) (zeros k) P

-- "G0 = [R I Q]"
abbrev pub built_g0 : ℕ → ℕ → List ℕ → List ℕ → List ℕ
built_g0 k l R Q = blocks k l R (identity l) Q

-- "H = [Pᵀ (Q + RP)ᵀ I]", of r rows
abbrev pub built_h : ℕ → ℕ → ℕ → List ℕ → List ℕ → List ℕ → List ℕ
built_h r k l P R Q = blocks k l (transposed r P) (transposed r (plus Q (times R P))) (identity r)

-- "M = [I Rᵀ 0]"
abbrev pub built_m : ℕ → ℕ → List ℕ → List ℕ
built_m k l R = blocks k l (identity k) (transposed k R) (zeros k)

-- "the whole sheet": G1, G0, H and M, one after the other
unfoldable pub built : ℕ → ℕ → ℕ → List ℕ → List ℕ → List ℕ → List ℕ
unfolding each column
built n k l P R Q = built_g1 k l P ++ (built_g0 k l R Q ++ (built_h (n - (k + l)) k l P R Q ++ built_m k l R))

-- "P (k by r), R (l by k), Q (l by r)": whether as many rows were handed in for each; "lent rooms too: .. k, l and l for tables given back"
abbrev pub tabled : ℕ → ℕ → ℕ → ℕ → ℕ → Bool
tabled k l for_p for_r for_q = eqb for_p k && eqb for_r l && eqb for_q l

-- row i of a table of m columns has a bit at column m or above
abbrev pub stray_in : ℕ → List ℕ → ℕ → Bool
stray_in m rows i = leb (2 ^ m) (get_or rows i 0)

-- "Stray bits are refusal 2, with the row counted through P, then R, then Q."
unfoldable pub builds_sized : ℕ → ℕ → ℕ → List ℕ → List ℕ → List ℕ → Told
unfolding first
builds_sized n k l P R Q =
    unless_at (first (length P) (stray_in (n - (k + l)) P)) 2 0
    (unless_at (first (length R) (stray_in k R)) 2 k (unless_at (first (length Q) (stray_in (n - (k + l)) Q)) 2 (k + l) (answer [])))

-- what building answers, a room being lent: "Wrong sizes are refusal 1, lent rooms too: n + k rows for the sheet"
unfoldable pub builds : ℕ → ℕ → ℕ → List ℕ → List ℕ → List ℕ → List ℕ → Told
unfolding builds_sized
builds n k l P R Q room = unless (shaped (sheet n k l room) && tabled k l (length P) (length R) (length Q)) 1 (builds_sized n k l P R Q)

-- the sheet of the tables that a call is handed
abbrev pub built_of : Tables → List ℕ
built_of t = built t.n t.k t.l t.P t.R t.Q

-- and what building it answers, a room being lent
abbrev pub builds_of : Tables → List ℕ → Told
builds_of t room = builds t.n t.k t.l t.P t.R t.Q room

-- ---- "an admitted sheet whose G1 and G0 have that shape gives its tables back"

-- the cells of x from `from` on, `count` of them
abbrev pub cells : ℕ → ℕ → ℕ → ℕ
cells from count x = x / 2 ^ from % 2 ^ count

-- what stands in P's place of [I 0 P]
abbrev pub table_p : Sheet → List ℕ
table_p s = map (cells (s.k + s.l) (r s)) (G1 s)

-- and in R's and Q's of [R I Q]
abbrev pub table_r : Sheet → List ℕ
table_r s = map (cells 0 s.k) (G0 s)

abbrev pub table_q : Sheet → List ℕ
table_q s = map (cells (s.k + s.l) (r s)) (G0 s)

-- each of the rows xs is the row of ys with its number
abbrev pub alike : List ℕ → List ℕ → Bool
alike xs ys = not (any (length xs) (λ i. not (eqb (get_or xs i 0) (get_or ys i 0))))

-- "whose G1 and G0 have that shape": they are [I 0 P] and [R I Q] with the tables that stand there
abbrev pub systematic : Sheet → Bool
systematic s = alike (G1 s) (built_g1 s.k s.l (table_p s)) && alike (G0 s) (built_g0 s.k s.l (table_r s) (table_q s))

-- 24: "Asking an admitted sheet of another shape for its tables"
unfoldable pub gives_admitted : Sheet → Told
unfolding first each
gives_admitted s = unless (systematic s) 24 (answer [])

-- what asking for the tables answers, rooms of so many rows being lent: 1, also for the rooms; then "24, after 1 to 6"
unfoldable pub gives : Sheet → ℕ → ℕ → ℕ → Told
unfolding judged gives_admitted
gives s for_p for_r for_q = unless (tabled s.k s.l for_p for_r for_q) 1 (judged s (gives_admitted s))
