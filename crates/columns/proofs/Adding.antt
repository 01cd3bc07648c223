-- The columns, a row after another, and of a row a cell after another. For the functions that add rows to columns. Assumes nothing.
use mathlib.Core.Path.{◌≡◌, refl, sym, ap, ap₂, ◌∙◌, subst}
use mathlib.Core.Bool.{false, true≢false}
use mathlib.Core.Logic.{⊎_elim}
use mathlib.Core.List.{List, [], ◌∷◌, ◌++◌}
use Prim.Native.Nat.{ℕ, zero, suc, ◌+◌, ◌-◌, ◌*◌, ◌/◌, ◌%◌, ◌^◌, ◌≤◌, ◌<◌, suc-le-suc}
use native.Mathlib.Nat.{zero-lt-suc, eq-zero-or-pos, pow-suc, mul_comm, mul-one, mul_assoc, add-mul, one-mul, zero-mul, suc-mul, mul-le-mul_right}
use native.Mathlib.Numerals.{add-one}
use native.Mathlib.Decide.{ℕ_discrete}
use native.Mathlib.Omega.{arith}
use borrow.Author.Tests.{eq-eqb}
use Rattle.std.proofs.lemmas.Bool.{eqb-true}
use lib.Bits.{bit_and, and_self}
use lib.Dec.{eqb}
use lib.ListN.{length, get_or, replicate, set, take}
use lib.Pow.{pow_mono, pow-add}
use lib.Seq.{get_or-set_same, get_or-set_other, length-take-le, take-suc}
use Rattle.paper.specs.First.{nowhere, at, first}
use Rattle.paper.specs.Words.{width, cell, weight, product, products, ◌⊕◌}
use Rattle.words.proofs.Cells.{by-half, and-half, and-odd, cell-suc, cell-0, cell-lt, cell-cases, cell-of-0, cell-unit, cell-unit-other, no_cell}
use Rattle.words.proofs.Firsts.{first-at, first-all}
use Rattle.words.proofs.Sums.{⊕-half, ⊕-odd, ⊕-zero-r, cell-⊕, ones-⊕-and, ones-unit}
use Rattle.words.proofs.Products.{product-unit, products_lt}
use Rattle.columns.specs.Columns.{Columns, Below, AddedRow, Added}
use Rattle.columns.proofs.Summed.{products-append}

-- ---- a row, a cell after another

-- x and x - 1 differ in the lowest cell of x and those below it, so they share the others
lowest-off : (c x : ℕ) → cell x c ≡ 1 → ((i : ℕ) → i < c → cell x i ≡ 0) → bit_and x (x - 1) ≡ x ⊕ 2 ^ c
lowest-off zero x e h =
    let o : x % 2 ≡ 1 = sym (cell-0 x) ∙ e in
    let d : (x - 1) / 2 ≡ x / 2 = omega arith in
    by-half (and-half x (x - 1) ∙ ap (bit_and (x / 2)) d ∙ and_self (x / 2) ∙ sym (⊕-half x 1 ∙ ⊕-zero-r (x / 2)))
    (omega (arith, and-odd x (x - 1), ⊕-odd x 1))
lowest-off (suc c) x e h =
    let o : x % 2 ≡ 0 = sym (cell-0 x) ∙ h 0 (zero-lt-suc c) in
    let d : (x - 1) / 2 ≡ x / 2 - 1 = omega arith in
    let p : 2 ^ c ≡ 2 ^ suc c / 2 = omega (arith, pow-suc 2 c) in
    by-half
    (and-half x (x - 1) ∙ ap (bit_and (x / 2)) d ∙ lowest-off c (x / 2) (sym (cell-suc x c) ∙ e) (λ i l. sym (cell-suc x i) ∙ h (suc i) (suc-le-suc l))
    ∙ ap (λ (k : ℕ). x / 2 ⊕ k) p ∙ sym (⊕-half x (2 ^ suc c)))
    (omega (arith, and-odd x (x - 1), ⊕-odd x (2 ^ suc c), pow-suc 2 c))

-- c is the lowest cell of x
pub record IsLowest (x c : ℕ) : Type 0 where
  pub within : c < width
  pub is_one : cell x c ≡ 1
  pub some : 0 < x
  pub off : bit_and x (x - 1) ≡ x ⊕ 2 ^ c

-- the lowest cell, as the code found it, and that there is none
module _ (x : ℕ) where
  zero_cell : (i : ℕ) → eqb (cell x i) 1 ≡ false → cell x i ≡ 0
  zero_cell i n = ⊎_elim (λ z. z) (λ e. absurd (true≢false (sym (eq-eqb (cell x i) 1 e) ∙ n))) (cell-cases x i)

  pub lowest : {c : ℕ} → at c ≡ first width (λ i. eqb (cell x i) 1) → IsLowest x c
  lowest {c} h =
      let f = first-at (λ i. eqb (cell x i) 1) width c (sym h) in
      let e = eqb-true (cell x c) 1 f.1 in record {
        within = f.0;
        is_one = e;
        some = ⊎_elim (λ z. absurd (omega (arith, e, ap (λ (y : ℕ). cell y c) z, cell-of-0 c))) (λ p. p) (eq-zero-or-pos x);
        off = lowest-off c x e (λ i l. zero_cell i (f.2 i l));
      }

  pub none_lowest : x < 2 ^ width → nowhere ≡ first width (λ i. eqb (cell x i) 1) → x ≡ 0
  none_lowest l h = no_cell width l (λ i k. zero_cell i (first-all (λ j. eqb (cell x j) 1) width i (sym h) k))

-- a cell of x taken out of it
module _ (x c : ℕ) (e : cell x c ≡ 1) where
  cell-off : cell (x ⊕ 2 ^ c) c ≡ 0
  cell-off = cell-⊕ x (2 ^ c) c ∙ omega (arith, cell-unit c)

  cell-kept : (j : ℕ) → (c ≡ j → ⊥) → cell (x ⊕ 2 ^ c) j ≡ cell x j
  cell-kept j n = cell-⊕ x (2 ^ c) j ∙ omega (arith, cell-unit-other c j n, cell-lt x j)

  pub weight-off : weight (x ⊕ 2 ^ c) < weight x
  weight-off = omega (arith, ones-⊕-and x (2 ^ c), ones-unit c, product-unit x c)

-- what is added, and what the cells of x still add, is what the row adds
abbrev pub Adding : ℕ → ℕ → List ℕ → ℕ → List ℕ → Type 0
Adding row b cols x after = (j : ℕ) → get_or after j 0 + cell x j * b ≡ get_or cols j 0 + cell row j * b

module _ (row b x c : ℕ) (cols after : List ℕ) (inv : Adding row b cols x after) (e : cell x c ≡ 1) where
  whole : get_or after c 0 + b ≡ get_or cols c 0 + cell row c * b
  whole = omega (arith, inv c, ap (λ (k : ℕ). k * b) e, one-mul b)

  -- the column of a cell of x has room for b
  pub adding-fits : Below b cols → get_or after c 0 + b < b + b
  adding-fits l =
      let g : cell row c * b ≤ 1 * b = mul-le-mul_right b (omega (arith, cell-lt row c)) in
      omega (arith, whole, l.low c, one-mul b)

  -- b is added to it, and the cell taken out of x
  pub adding-more : c < length after → Adding row b cols (x ⊕ 2 ^ c) (set after c (get_or after c 0 + b))
  adding-more l j = go (ℕ_discrete c j)
    where
      go : Dec (c ≡ j) → get_or (set after c (get_or after c 0 + b)) j 0 + cell (x ⊕ 2 ^ c) j * b ≡ get_or cols j 0 + cell row j * b
      go (yes q) =
          subst (λ (k : ℕ). get_or (set after c (get_or after c 0 + b)) k 0 + cell (x ⊕ 2 ^ c) k * b ≡ get_or cols k 0 + cell row k * b) q
          (rw (get_or-set_same after c (get_or after c 0 + b) 0 l, cell-off x c e, zero-mul b) (omega (arith, whole)))
      go (no n) = rw (get_or-set_other after c j (get_or after c 0 + b) 0 (λ q. n (sym q)), cell-kept x c e j n) (inv j)

-- no cell is left
pub adding-end : (row b x : ℕ) (cols after : List ℕ) → x ≡ 0 → Adding row b cols x after → AddedRow row b cols after
adding-end row b x cols after e inv =
    record { sum = λ j. omega (arith, inv j, ap (λ (k : ℕ). cell k j * b) e, ap (λ (k : ℕ). k * b) (cell-of-0 j), zero-mul b) }

-- ---- rows, one after another

-- the products with one row more
products-next : (rows : List ℕ) (i x : ℕ) → i < length rows → products (take (i + 1) rows) x ≡ product (get_or rows i 0) x * 2 ^ i + products (take i rows) x
unfolding products
products-next rows i x h =
    let e = length-take-le i rows (omega arith) in
    ap (λ (k : ℕ). products (take k rows) x) (add-one i) ∙ ap (λ (l : List ℕ). products l x) (take-suc rows i 0 h)
    ∙ products-append (take i rows) (get_or rows i 0 ∷ []) x
    ∙ ap₂ (λ (p k : ℕ). p * 2 ^ k + products (take i rows) x) (omega arith) e

-- row i goes to a bit of a word: the bit and the same again
pub double-fits : (i : ℕ) {b : ℕ} → i < width → b ≡ 2 ^ i → b + b ≤ 2 ^ width
double-fits i h e = omega (arith, pow-suc 2 i, pow_mono {i = suc i} {j = width} h)

-- no row is added yet
pub added_none : (rows : List ℕ) (b : ℕ) (cols : List ℕ) → Added (take 0 rows) b cols cols
unfolding products
added_none rows b cols = record { sum = λ j. omega (arith, zero-mul b) }

module _ (rows : List ℕ) (start i : ℕ) (cols after : List ℕ) (inv : Added (take i rows) (2 ^ start) cols after) where
  -- there is room for row i
  pub added-below : i ≤ length rows → Below (2 ^ start) cols → Below (2 ^ (start + i)) after
  added-below h l = record { low = λ j. go j }
    where
      go : (j : ℕ) → get_or after j 0 < 2 ^ (start + i)
      go j =
          let q = products (take i rows) (2 ^ j) in
          let p : suc q ≤ 2 ^ i = rw (length-take-le i rows h) at (products_lt (take i rows) (2 ^ j)) in
          let m : suc q * 2 ^ start ≤ 2 ^ i * 2 ^ start = mul-le-mul_right (2 ^ start) p in
          omega (arith, inv.sum j, l.low j, m, suc-mul q (2 ^ start), pow-add 2 start i, mul_comm (2 ^ start) (2 ^ i))

  -- row i is added
  pub added_more : {b : ℕ} (next : List ℕ) → i < length rows → b ≡ 2 ^ (start + i) → AddedRow (get_or rows i 0) b after next → Added (take (i + 1) rows) (2 ^ start) cols next
  added_more {b} next h e r = record { sum = λ j. go j }
    where
      go : (j : ℕ) → get_or next j 0 ≡ get_or cols j 0 + products (take (i + 1) rows) (2 ^ j) * 2 ^ start
      go j =
          let p = cell (get_or rows i 0) j in
          let q = products (take i rows) (2 ^ j) in
          let n : products (take (i + 1) rows) (2 ^ j) ≡ p * 2 ^ i + q =
          products-next rows i (2 ^ j) h ∙ ap (λ (k : ℕ). k * 2 ^ i + q) (product-unit (get_or rows i 0) j) in
          let f : p * b ≡ p * 2 ^ i * 2 ^ start =
          ap (λ (k : ℕ). p * k) (e ∙ pow-add 2 start i ∙ mul_comm (2 ^ start) (2 ^ i)) ∙ sym (mul_assoc p (2 ^ i) (2 ^ start)) in
          let g : products (take (i + 1) rows) (2 ^ j) * 2 ^ start ≡ p * 2 ^ i * 2 ^ start + q * 2 ^ start =
          ap (λ (k : ℕ). k * 2 ^ start) n ∙ add-mul (p * 2 ^ i) q (2 ^ start) in
          omega (arith, r.sum j, inv.sum j, f, g)

-- ---- the rows xs added to nothing, and then the rows ys

-- no column has anything
zeros-none : (n j : ℕ) → ◌≡◌ {A = ℕ} (get_or (replicate n 0) j 0) 0
zeros-none zero j = refl
zeros-none (suc n) zero = refl
zeros-none (suc n) (suc j) = zeros-none n j

-- so there is room for the first rows
pub zeros-below : (n : ℕ) → Below 1 (replicate n 0)
zeros-below n = record { low = λ j. omega (arith, zeros-none n j) }

module _ (n : ℕ) (xs cols : List ℕ) (a : Added xs 1 (replicate n 0) cols) where
  first-sum : (j : ℕ) → get_or cols j 0 ≡ products xs (2 ^ j)
  first-sum j = omega (arith, a.sum j, zeros-none n j, mul-one (products xs (2 ^ j)))

  -- there is room for the second rows above the first
  pub first_below : Below (2 ^ length xs) cols
  first_below = record { low = λ j. omega (arith, first-sum j, products_lt xs (2 ^ j)) }

  pub both-added : (ys after : List ℕ) → Added ys (2 ^ length xs) cols after → Columns (xs ++ ys) after
  both-added ys after b = record { column = λ j. omega (arith, b.sum j, first-sum j, products-append xs ys (2 ^ j)) }
