-- How many words the list has, computed a line of Pascal's triangle at a time: a step for each cell and weight, where the list itself is too long to be written out.
-- For the promise that the number tried stays exact. Assumes nothing.
use mathlib.Core.Path.{◌≡◌, refl, sym, ap, ap₂, ◌∙◌}
use mathlib.Core.List.{List, [], ◌∷◌}
use Prim.Native.Nat.{ℕ, zero, suc, ◌+◌}
use native.Mathlib.Omega.{arith}
use lib.ListN.{length}
use Rattle.paper.specs.Listing.{listed, weights}
use Rattle.listing.proofs.Listed.{length-zero, length-step, weights-nil, weights-cons}

-- how many words over n cells there are of weight v, of weight v + 1 and so on, for `count` weights
unfoldable pub counts : ℕ → ℕ → ℕ → List ℕ
counts n v zero = []
counts n v (suc count) = length (listed n v) ∷ counts n (suc v) count

-- the next line of the triangle: each number and the one before it
unfoldable pub next : ℕ → List ℕ → List ℕ
next a [] = []
next a (x ∷ xs) = (x + a) ∷ next x xs

-- n lines on
unfoldable pub line : List ℕ → ℕ → List ℕ
line start zero = start
line start (suc n) = next 0 (line start n)

-- the numbers of a line together
unfoldable pub total : List ℕ → ℕ
total [] = 0
total (x ∷ xs) = x + total xs

-- a number of the next line is one of this line and the one before it: `length-step`
next-counts : (n v count : ℕ) → next (length (listed n v)) (counts n (suc v) count) ≡ counts (suc n) (suc v) count
unfolding next counts
next-counts n v zero = refl
next-counts n v (suc count) = ap₂ (λ (x : ℕ) (xs : List ℕ). x ∷ xs) (sym (length-step n v)) (next-counts n (suc v) count)

-- n lines on from the line of no cells is the line of n cells
line-counts : (n count : ℕ) → line (counts 0 0 (suc count)) n ≡ counts n 0 (suc count)
unfolding line next counts
line-counts zero count = refl
line-counts (suc n) count =
    ap (next 0) (line-counts n count)
    ∙ ap₂ (λ (x : ℕ) (xs : List ℕ). x ∷ xs) (omega (arith, length-zero n, length-zero (suc n))) (next-counts n 0 count)

-- the words of all the weights
total-counts : (n v count : ℕ) → total (counts n v count) ≡ length (weights n v count)
unfolding total counts
total-counts n v zero = sym (weights-nil n v)
total-counts n v (suc count) = omega (arith, weights-cons n v count, total-counts n (suc v) count)

-- the length of the list up to weight `count`, by the line of n cells
pub list_length : (n count : ℕ) → length (weights n 0 (suc count)) ≡ total (line (counts 0 0 (suc count)) n)
list_length n count = sym (ap total (line-counts n count) ∙ total-counts n 0 (suc count))
