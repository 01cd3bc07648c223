-- The product of two words and the products with rows: additive, symmetric, and what a single cell tells.
-- For the code, the message of a word, and both distances. Assumes nothing.
use mathlib.Core.Path.{◌≡◌, refl, sym, ap, ap₂, ◌∙◌}
use mathlib.Core.Logic.{◌⊎◌, ◌≢◌}
use mathlib.Core.List.{List, [], ◌∷◌, ◌++◌, append_assoc}
use Prim.Native.Nat.{ℕ, zero, suc, ◌+◌, ◌-◌, ◌*◌, ◌/◌, ◌%◌, ◌^◌, ◌≤◌, ◌<◌, min}
use native.Mathlib.Nat.{zero-lt-suc, mod-lt, mod-eq_of_lt, pow-suc, lt_of_lt_of_le, lt_of_le_of_lt}
use native.Mathlib.Omega.{arith}
use lib.ListN.{length, get_or, drop, length-append, length-drop, drop_of_length-le}
use lib.Seq.{drop-cons}
use lib.Pow.{pow_mono}
use lib.Bits.{bit_and, and_comm, and_mod, and_le_l}
use lib.Count.{ones, ones_step}
use Rattle.paper.specs.Words.{cell, product, products, ◌⊕◌}
use Rattle.words.proofs.Cells.{and-half, and-odd, and_assoc, parity, by-half, cell-suc, cell-0, cell-of-0, top, top_one}
use Rattle.words.proofs.Sums.{⊕-half, ⊕-odd, ⊕-zero-l, ⊕-self, and-⊕, ones-zero, ones-⊕-and}

-- ---- the product

pub product_lt : (a b : ℕ) → product a b < 2
product_lt a b = mod-lt (ones (bit_and a b)) (zero-lt-suc 1)

pub product-cases : (a b : ℕ) → (product a b ≡ 0) ⊎ (product a b ≡ 1)
product-cases a b = parity (ones (bit_and a b))

pub product-comm : (a b : ℕ) → product a b ≡ product b a
product-comm a b = rw (and_comm a b)

pub product-zero-l : (b : ℕ) → product 0 b ≡ 0
product-zero-l b = rw ones-zero

pub product-zero-r : (a : ℕ) → product a 0 ≡ 0
product-zero-r a = product-comm a 0 ∙ product-zero-l a

-- the lowest cells, and the rest
pub product-step : (a b : ℕ) → product a b ≡ (min (a % 2) (b % 2) + product (a / 2) (b / 2)) % 2
product-step a b = rw (ones_step (bit_and a b), and-half, and-odd) (omega arith)

pub product-⊕ : (a b c : ℕ) → product a (b ⊕ c) ≡ (product a b + product a c) % 2
product-⊕ a b c = rw (and-⊕ a b c) (omega (arith, ones-⊕-and (bit_and a b) (bit_and a c)))

pub ⊕-product : (a b x : ℕ) → product (a ⊕ b) x ≡ (product a x + product b x) % 2
⊕-product a b x = rw (product-comm (a ⊕ b) x, product-⊕ x a b, product-comm x a, product-comm x b)

-- with the word that is 1 at cell i alone
pub product-unit : (x i : ℕ) → product x (2 ^ i) ≡ cell x i
product-unit x zero = omega (arith, product-step x 1, product-zero-r (x / 2), cell-0 x)
product-unit x (suc i) =
    let o : 2 ^ suc i % 2 ≡ 0 = omega (arith, pow-suc 2 i) in
    let h : 2 ^ suc i / 2 ≡ 2 ^ i = omega (arith, pow-suc 2 i) in
    rw (product-step x (2 ^ suc i), h, o, product-unit (x / 2) i, cell-suc x i) (omega arith)

-- a word that has the top cell has product 1 with that cell
pub product-top : (n p : ℕ) → 2 ^ n ≤ p → p < 2 ^ suc n → product p (2 ^ n) ≡ 1
product-top n p h l = product-unit p n ∙ top_one n p h l

-- a word that is not 0 has product 1 with one of its cells
pub product-some : (n a : ℕ) → a < 2 ^ n → a ≢ 0 → (x : ℕ) × (x < 2 ^ n) × (product a x ≡ 1)
product-some n a h f =
    let t = top a (omega arith) in
    (2 ^ t.0, omega (arith, t.1), product-unit a t.0 ∙ t.3)

-- a product may be taken over a mask from either side
pub product-mask : (c m x : ℕ) → product (bit_and c m) x ≡ product c (bit_and m x)
product-mask c m x = rw (and_assoc c m x)

-- only the lower n cells of the other word count for a word over n cells
pub product-low : (n a b : ℕ) → a < 2 ^ n → product a (b % 2 ^ n) ≡ product a b
product-low n a b h =
    ap (λ (x : ℕ). ones x % 2)
    (ap (λ (x : ℕ). bit_and x (b % 2 ^ n)) (sym (mod-eq_of_lt h)) ∙ sym (and_mod a b n) ∙ mod-eq_of_lt (lt_of_le_of_lt (and_le_l a b) h))

-- ---- the products with rows

module _ (m : ℕ) (ms : List ℕ) (x : ℕ) where
  pub products-half : products (m ∷ ms) x / 2 ≡ products ms x
  unfolding products
  products-half = omega (arith, product_lt m x)

  pub products-odd : products (m ∷ ms) x % 2 ≡ product m x
  unfolding products
  products-odd = omega (arith, product_lt m x)

pub products-nil : (x : ℕ) → products [] x ≡ 0
unfolding products
products-nil x = refl

pub products_lt : (rows : List ℕ) (x : ℕ) → products rows x < 2 ^ length rows
products_lt [] x = rw products-nil (zero-lt-suc 0)
products_lt (m ∷ ms) x = omega (arith, products-half m ms x, products-odd m ms x, products_lt ms x, pow-suc 2 (length ms))

pub products-⊕ : (rows : List ℕ) (x y : ℕ) → products rows (x ⊕ y) ≡ products rows x ⊕ products rows y
products-⊕ [] x y = products-nil (x ⊕ y) ∙ sym (ap₂ ◌⊕◌ (products-nil x) (products-nil y) ∙ ⊕-zero-l 0)
products-⊕ (m ∷ ms) x y =
    by-half
    (rw (products-half m ms (x ⊕ y), ⊕-half (products (m ∷ ms) x) (products (m ∷ ms) y), products-half m ms x, products-half m ms y)
    (products-⊕ ms x y))
    (rw (products-odd m ms (x ⊕ y), product-⊕ m x y)
    (omega (arith, ⊕-odd (products (m ∷ ms) x) (products (m ∷ ms) y), products-odd m ms x, products-odd m ms y)))

pub products-zero : (rows : List ℕ) → products rows 0 ≡ 0
products-zero rows = ap (products rows) (sym (⊕-self 0)) ∙ products-⊕ rows 0 0 ∙ ⊕-self (products rows 0)

-- bit i is the product with row i
pub cell-products : (rows : List ℕ) (x i : ℕ) → cell (products rows x) i ≡ product (get_or rows i 0) x
cell-products [] x i = rw (products-nil x) (cell-of-0 i ∙ sym (product-zero-l x))
cell-products (m ∷ ms) x zero = cell-0 (products (m ∷ ms) x) ∙ products-odd m ms x
cell-products (m ∷ ms) x (suc i) =
    cell-suc (products (m ∷ ms) x) i ∙ ap (λ (y : ℕ). cell y i) (products-half m ms x) ∙ cell-products ms x i

-- ---- from the last row down

-- by the place of a row: the row before it joins those from it on, none is left at the end, and the products fit into as many bits as there may be rows
module _ (rows : List ℕ) (i x : ℕ) where
  pub products-back : 0 < i → i ≤ length rows → products (drop (i - 1) rows) x ≡ product (get_or rows (i - 1) 0) x + 2 * products (drop i rows) x
  unfolding products
  products-back p h =
      let e : suc (i - 1) ≡ i = omega arith in
      rw (drop-cons rows (i - 1) 0 (omega arith)) (ap (λ (k : ℕ). product (get_or rows (i - 1) 0) x + 2 * products (drop k rows) x) e)

  pub products-end : length rows ≤ i → products (drop i rows) x ≡ 0
  products-end h = rw (drop_of_length-le rows h) (products-nil x)

  pub products-from-lt : (n : ℕ) → length rows ≤ n → products (drop i rows) x < 2 ^ n
  products-from-lt n h = lt_of_lt_of_le (products_lt (drop i rows) x) (pow_mono (rw length-drop (omega arith)))

-- as the loop over the rows has it, by what is left of them: the last row that is left joins those passed, and the products with these fit into as many bits as there may be rows
pub products-joined : (rows left rest passed : List ℕ) (row x n : ℕ) → length rows ≤ n → rows ≡ left ++ passed → left ≡ rest ++ row ∷ []
    → (rows ≡ rest ++ row ∷ passed) × (product row x + 2 * products passed x < 2 ^ n)
unfolding products
products-joined rows left rest passed row x n h e f =
    let g : rows ≡ rest ++ row ∷ passed = e ∙ ap (λ (l : List ℕ). l ++ passed) f ∙ append_assoc rest (row ∷ []) passed in
    (g, lt_of_lt_of_le (products_lt (row ∷ passed) x) (pow_mono (omega (arith, ap length g, length-append rest (row ∷ passed)))))
