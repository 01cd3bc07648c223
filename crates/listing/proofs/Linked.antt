-- The test of a word by the sum of its columns is the test by its products with the rows. For the proof of `search_weights`. Assumes nothing.
use mathlib.Core.Path.{◌≡◌, sym, ap, ap₂, ◌∙◌}
use mathlib.Core.Bool.{Bool, true, not, ◌&&◌, ◌||◌}
use mathlib.Core.List.{List, [], ◌∷◌, ◌++◌}
use Prim.Native.Nat.{ℕ, zero, suc, ◌+◌, ◌-◌, ◌*◌, ◌^◌, ◌<◌}
use native.Mathlib.Nat.{suc-mul, zero-mul}
use native.Mathlib.Omega.{arith}
use borrow.Author.Tests.{ne_eqb, le-leb, lt-leb}
use lib.Bits.{bit_and}
use lib.Dec.{eqb, leb}
use lib.ListN.{length}
use lib.Pow.{pow_pos}
use Rattle.paper.specs.Words.{products, sum, ◌⊕◌}
use Rattle.paper.specs.Listing.{search, weights}
use Rattle.words.proofs.Products.{products-⊕}
use Rattle.columns.specs.Columns.{Columns}
use Rattle.columns.proofs.Summed.{products-append, sum_low, columns-sum}
use Rattle.listing.specs.Searches.{passes}
use Rattle.listing.specs.Sums.{demand, meets, fits}
use Rattle.listing.proofs.Listed.{weights-of}
use Rattle.listing.proofs.Find.{search-cong}

not-zero : (a b k : ℕ) → 0 < k → (eqb a 0 && not (eqb b 0)) ≡ (eqb a 0 && leb 1 (b * k + a))
not-zero zero zero k h = sym (lt-leb 1 (0 * k + 0) (omega (arith, zero-mul k)))
not-zero zero (suc b) k h = ap not (ne_eqb (suc b) 0 (λ e. omega arith)) ∙ sym (le-leb 1 (suc b * k + 0) (omega (arith, suc-mul b k)))
not-zero (suc a) b k h =
    ap (λ (t : Bool). t && not (eqb b 0)) (ne_eqb (suc a) 0 (λ e. omega arith))
    ∙ sym (ap (λ (t : Bool). t && leb 1 (b * k + suc a)) (ne_eqb (suc a) 0 (λ e. omega arith)))

-- the two tests of products are one of their word, the second rows above the first
test-meets : (xs ys : List ℕ) (x : ℕ)
    → (eqb (products xs x) 0 && (eqb (length ys) 0 || not (eqb (products ys x) 0))) ≡ meets (2 ^ length xs - 1) (demand ys) (products (xs ++ ys) x)
test-meets xs [] x =
    ap (λ (s : ℕ). eqb s 0 && true) (sym (sum_low xs [] x))
    ∙ sym (ap (λ (t : Bool). eqb (bit_and (2 ^ length xs - 1) (products (xs ++ []) x)) 0 && t) (le-leb 0 (products (xs ++ []) x) (omega arith)))
test-meets xs (m ∷ ms) x =
    ap (λ (t : Bool). eqb (products xs x) 0 && (t || not (eqb (products (m ∷ ms) x) 0))) (ne_eqb (length (m ∷ ms)) 0 (λ e. omega arith))
    ∙ not-zero (products xs x) (products (m ∷ ms) x) (2 ^ length xs) (pow_pos (length xs))
    ∙ ap₂ (λ (a s : ℕ). eqb a 0 && leb 1 s) (sym (sum_low xs (m ∷ ms) x)) (sym (products-append xs (m ∷ ms) x))

-- so both find the same; y is a word of w cells, n of which are listed
pub linked : (w n : ℕ) (xs ys cols : List ℕ) (y : ℕ) {h o s : ℕ} (v count : ℕ) → Columns (xs ++ ys) cols → y < 2 ^ w
    → h ≡ 2 ^ length xs - 1 → o ≡ demand ys → s ≡ sum cols y
    → search (passes xs ys y) 0 (weights n v count) ≡ search (fits cols h o s) 0 (weights n v count)
unfolding passes fits
linked w n xs ys cols y v count k l eh eo es =
    rw (eh, eo, es)
    (search-cong 0 (weights n v count) (λ z m.
    test-meets xs ys (y ⊕ z)
    ∙ ap (meets (2 ^ length xs - 1) (demand ys))
    (products-⊕ (xs ++ ys) y z ∙ ap₂ ◌⊕◌ (columns-sum w (xs ++ ys) cols y k l) (columns-sum n (xs ++ ys) cols z k (weights-of n v count z m).0))))
