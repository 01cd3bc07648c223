-- The sums of columns are the products with the rows; and the products with the first rows are the low cells of the products with all.
-- For who lists words and keeps their products by sums of columns. Assumes nothing.
use mathlib.Core.Path.{◌≡◌, sym, ap, ap₂, ◌∙◌}
use mathlib.Core.List.{List, [], ◌∷◌, ◌++◌}
use Prim.Native.Nat.{ℕ, zero, suc, ◌+◌, ◌-◌, ◌*◌, ◌%◌, ◌^◌, ◌≤◌, ◌<◌}
use native.Mathlib.Nat.{pow-suc, mul_comm, mul_assoc, one-mul}
use native.Mathlib.Decide.{dec_le}
use native.Mathlib.Omega.{arith}
use lib.Arith.{lt-one}
use lib.Bits.{bit_and, and_comm, and_mask}
use lib.ListN.{length}
use lib.Pow.{low}
use Rattle.paper.specs.Words.{products, sum, ◌⊕◌}
use Rattle.words.proofs.Sums.{⊕-above}
use Rattle.words.proofs.Products.{products-zero, products-⊕, products_lt}
use Rattle.words.proofs.Rows.{sum-zero, sum_top}
use Rattle.columns.specs.Columns.{Columns}

-- the products with the later rows stand above those with the first
pub products-append : (xs ys : List ℕ) (x : ℕ) → products (xs ++ ys) x ≡ products ys x * 2 ^ length xs + products xs x
unfolding products
products-append [] ys x = omega (arith, mul_comm (products ys x) 1, one-mul (products ys x))
products-append (m ∷ ms) ys x =
    let e : 2 ^ suc (length ms) ≡ 2 ^ length ms * 2 = omega (arith, pow-suc 2 (length ms)) in
    rw (e, ← mul_assoc (products ys x) (2 ^ length ms) 2) (omega (arith, products-append ms ys x))

-- the low cells of the products with all rows
pub sum_low : (xs ys : List ℕ) (x : ℕ) → bit_and (2 ^ length xs - 1) (products (xs ++ ys) x) ≡ products xs x
sum_low xs ys x =
    and_comm (2 ^ length xs - 1) (products (xs ++ ys) x) ∙ and_mask (products (xs ++ ys) x) (length xs)
    ∙ ap (λ (s : ℕ). s % 2 ^ length xs) (products-append xs ys x) ∙ low (products ys x) (length xs) (products_lt xs x)

-- the law: the products with z are the sum of the columns of z's cells, taken from the highest cell down
pub columns-sum : (n : ℕ) (rows cols : List ℕ) (z : ℕ) → Columns rows cols → z < 2 ^ n → products rows z ≡ sum cols z
columns-sum zero rows cols z k h = let e = lt-one h in rw e (products-zero rows ∙ sym (sum-zero cols))
columns-sum (suc n) rows cols z k h = go (dec_le (2 ^ n) z) (λ y l. columns-sum n rows cols y k l)
  where
    go : Dec (2 ^ n ≤ z) → ((y : ℕ) → y < 2 ^ n → products rows y ≡ sum cols y) → products rows z ≡ sum cols z
    go (no g) r = r z (omega arith)
    go (yes g) r =
        let f : z ≡ z - 2 ^ n + 2 ^ n = omega arith in
        let l : z - 2 ^ n < 2 ^ n = omega (arith, pow-suc 2 n) in
        ap (products rows) (f ∙ sym (⊕-above n (z - 2 ^ n) l)) ∙ products-⊕ rows (2 ^ n) (z - 2 ^ n)
        ∙ ap₂ ◌⊕◌ (sym (k.column n)) (r (z - 2 ^ n) l) ∙ sym (sum_top cols n (z - 2 ^ n) l) ∙ ap (sum cols) (sym f)
