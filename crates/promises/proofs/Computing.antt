-- The searches of a read and of a measurement in a form that computes at 64 cells: for the worked calls there. The definition of a weight takes as many steps as the
-- number is large; a count that stops where no one is left takes as many as there are cells, and is shown to be the same. Assumes nothing.
use mathlib.Core.Path.{◌≡◌, refl, ap, ap₂, ◌∙◌}
use mathlib.Core.Bool.{Bool, not, ◌&&◌}
use mathlib.Core.List.{List, [], ◌∷◌}
use Prim.Native.Nat.{ℕ, zero, suc, ◌+◌, ◌*◌, ◌/◌, ◌%◌, ◌^◌, ◌≤◌, ◌<◌}
use native.Mathlib.Omega.{arith}
use lib.Bits.{bit_and}
use lib.Count.{ones_in, ones}
use lib.Dec.{eqb}
use Rattle.paper.specs.Listing.{found, weights, search}
use Rattle.paper.specs.Plate.{search_d0, search_d1}
use Rattle.paper.specs.Reading.{most_radius, nearest, heard, reads}
use Rattle.paper.specs.Refusals.{answer}
use Rattle.paper.specs.Sheet.{Sheet, G0, H, M, Admitted}
use Rattle.paper.specs.Words.{products, ◌⊕◌}
use Rattle.listing.proofs.Searched.{search-same}
use Rattle.promises.proofs.Answers.{reads_on}

-- ---- products that compute

-- the ones of the lowest `most` cells of x, counted until none is left
unfoldable pub counted : ℕ → ℕ → ℕ
counted zero x = 0
counted (suc most) zero = 0
counted (suc most) (suc x) = suc x % 2 + counted most (suc x / 2)

-- the library's count goes on where no one is left
counted-ones : (most x : ℕ) → ones_in most x ≡ counted most x
unfolding ones_in counted
counted-ones zero x = refl
counted-ones (suc most) zero = omega (arith, counted-ones most 0, none most)
  where
    none : (most : ℕ) → counted most 0 ≡ 0
    none zero = refl
    none (suc most) = refl
counted-ones (suc most) (suc x) = ap (λ (y : ℕ). suc x % 2 + y) (counted-ones most (suc x / 2))

-- the products of x with each row, so counted
unfoldable pub quick : List ℕ → ℕ → ℕ
quick [] x = 0
quick (row ∷ rows) x = counted (bit_and row x) (bit_and row x) % 2 + 2 * quick rows x

-- they are the products
pub quick-products : (rows : List ℕ) (x : ℕ) → products rows x ≡ quick rows x
unfolding products quick ones
quick-products [] x = refl
quick-products (row ∷ rows) x = ap₂ (λ (a b : ℕ). a % 2 + 2 * b) (counted-ones (bit_and row x) (bit_and row x)) (quick-products rows x)

-- and test alike
quick-clear : (rows : List ℕ) (x : ℕ) → eqb (products rows x) 0 ≡ eqb (quick rows x) 0
quick-clear rows x = ap (λ (p : ℕ). eqb p 0) (quick-products rows x)

-- ---- the searches by such products

-- a read's
quick-nearest : (s : Sheet) (y t : ℕ) → nearest s y t ≡ search (λ z. eqb (quick (H s) (y ⊕ z)) 0) 0 (weights s.n 0 (t + 1))
unfolding nearest
quick-nearest s y t = search-same _ _ (λ z. quick-clear (H s) (y ⊕ z)) 0 (weights s.n 0 (t + 1))

-- those of the two measurements
pub quick-d0 : (s : Sheet) (cap : ℕ) → search_d0 s cap ≡ search (λ z. eqb (quick (G0 s) z) 0) 0 (weights s.n 1 cap)
unfolding search_d0
quick-d0 s cap = search-same _ _ (quick-clear (G0 s)) 0 (weights s.n 1 cap)

pub quick-d1 : (s : Sheet) (cap : ℕ) → search_d1 s cap ≡ search (λ z. eqb (quick (H s) z) 0 && not (eqb (quick (M s) z) 0)) 0 (weights s.n 1 cap)
unfolding search_d1
quick-d1 s cap = search-same _ _ (λ z. ap₂ (λ (a b : Bool). a && not b) (quick-clear (H s) z) (quick-clear (M s) z)) 0 (weights s.n 1 cap)

-- ---- what a read tells by them

pub quick-reads : (s : Sheet) → Admitted s → (y t z tried : ℕ) → y < 2 ^ s.n → t ≤ most_radius
    → search (λ u. eqb (quick (H s) (y ⊕ u)) 0) 0 (weights s.n 0 (t + 1)) ≡ found z tried → reads s y t ≡ answer (quick (M s) (y ⊕ z) ∷ z ∷ tried ∷ [])
quick-reads s ok y t z tried low few e =
    reads_on s ok y t low few ∙ ap (heard s y) (quick-nearest s y t ∙ e) ∙ ap (λ (m : ℕ). answer (m ∷ z ∷ tried ∷ [])) (quick-products (M s) (y ⊕ z))
