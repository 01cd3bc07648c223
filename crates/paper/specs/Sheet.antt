-- The sheet: its parts, when it is admitted, its code, and the words of a message.
use Rattle.std.specs.Prelude.{◌≡◌, Bool, cond, not, ◌&&◌, List, [], ℕ, ◌+◌, ◌-◌, ◌^◌, ◌<◌, eqb, leb, length, get_or, take, drop}
use Rattle.paper.specs.First.{first, any}
use Rattle.paper.specs.Words.{width, product, products, sum}
use Rattle.paper.specs.Refusals.{Told, answer, unless, unless_at}

-- "A sheet has numbers n, k, l, with r = n - k - l, and n + k rows"
pub record Sheet : Type 0 where
  pub n : ℕ
  pub k : ℕ
  pub l : ℕ
  pub rows : List ℕ

-- the sheet that a call is handed
abbrev pub sheet : ℕ → ℕ → ℕ → List ℕ → Sheet
sheet n k l rows = record { n = n; k = k; l = l; rows = rows }

-- "r = n - k - l"
abbrev pub r : Sheet → ℕ
r s = s.n - (s.k + s.l)

-- "in this order: k rows of G1"
abbrev pub G1 : Sheet → List ℕ
G1 s = take s.k s.rows

-- "l rows of G0"
abbrev pub G0 : Sheet → List ℕ
G0 s = take s.l (drop s.k s.rows)

-- "r rows of H"
abbrev pub H : Sheet → List ℕ
H s = take (r s) (drop (s.k + s.l) s.rows)

-- "k rows of M (the message inverse)"
abbrev pub M : Sheet → List ℕ
M s = take s.k (drop s.n s.rows)

-- the rows of G1 and G0 together
abbrev pub G : Sheet → List ℕ
G s = take (s.k + s.l) s.rows

-- "k ≥ 1, k + l ≤ n, the lent rows are n + k in number", and since request 5 "n may be 1 to 64"
abbrev pub shaped : Sheet → Bool
shaped s = leb 1 s.n && leb s.n width && leb 1 s.k && leb (s.k + s.l) s.n && eqb (length s.rows) (s.n + s.k)

-- "a row has a bit at cell n or above"
abbrev pub stray : Sheet → ℕ → Bool
stray s i = leb (2 ^ s.n) (get_or s.rows i 0)

-- the product wanted of row i of G with row j of the others: `own` if i is j, else 0 (a row of G0 has a number i of k or more, and j is below k)
abbrev pub wanted : ℕ → ℕ → ℕ → ℕ
wanted own i j = cond (eqb i j) own 0

-- row i of the rows gs has another product than the one wanted with some row of the others
abbrev pub off : ℕ → List ℕ → List ℕ → ℕ → Bool
off own gs others i = any (length others) (λ j. not (eqb (product (get_or gs i 0) (get_or others j 0)) (wanted own i j)))

-- broken where "every row of G1 and G0 has product 0 with every row of H" is
abbrev pub off_code : Sheet → ℕ → Bool
off_code s = off 0 (G s) (H s)

-- broken where "row i of G1 has product 1 with row i of M and 0 with its other rows; every row of G0 has product 0 with every row of M" is
abbrev pub off_message : Sheet → ℕ → Bool
off_message s = off 1 (G s) (M s)

-- row j "is a sum of earlier rows": some choice of them sums to it ("the empty sum is 0")
abbrev pub dependent : List ℕ → ℕ → Bool
dependent rows j = any (2 ^ j) (λ d. eqb (sum (take j rows) d) (get_or rows j 0))

-- rules 5 and 6, else what comes next. Rows are numbered over the whole sheet: those of G0 begin at k, those of H at k + l
unfoldable pub judged_sums : Sheet → Told → Told
unfolding first
judged_sums s next =
    unless_at (first s.l (dependent (G0 s))) 5 s.k (unless_at (first (r s) (dependent (H s))) 6 (s.k + s.l) next)

-- rules 2 to 6: "the row given is the first row in sheet order at which the rule breaks; a rule is tried on all rows before the next rule"
unfoldable pub judged_rows : Sheet → Told → Told
unfolding first judged_sums
judged_rows s next =
    unless_at (first (length s.rows) (stray s)) 2 0
    (unless_at (first (s.k + s.l) (off_code s)) 3 0 (unless_at (first (s.k + s.l) (off_message s)) 4 0 (judged_sums s next)))

-- refusals 1 to 6, else what comes next
unfoldable pub judged : Sheet → Told → Told
unfolding judged_rows
judged s next = unless (shaped s) 1 (judged_rows s next)

-- what admitting answers
abbrev pub admits : Sheet → Told
admits s = judged s (answer [])

-- "A sheet is admitted when .."
abbrev pub Admitted : Sheet → Type 0
Admitted s = admits s ≡ answer []

-- "The code is the set of n-cell words whose product with each row of H is 0."
pub record Codeword (s : Sheet) (x : ℕ) : Type 0 where
  pub cells : x < 2 ^ s.n
  pub checks : products (H s) x ≡ 0

-- "The words of message w are the codewords whose product with row i of M is bit i of w, for each i below k."
pub record WordOf (s : Sheet) (w x : ℕ) : Type 0 where
  pub code : Codeword s x
  pub message : products (M s) x ≡ w
