-- Rows of three blocks: what stands in each, their cells, and their products, which add over the blocks.
-- For the rules that a built sheet keeps, and for the tables of a sheet. Assumes nothing.
use mathlib.Core.Path.{◌≡◌, sym, ap, ap₂, ◌∙◌, subst}
use Prim.Native.Nat.{ℕ, ◌+◌, ◌*◌, ◌/◌, ◌%◌, ◌^◌, ◌<◌}
use native.Mathlib.Nat.{zero-mul, add-mul, mul_assoc, add_assoc, div-one, div-eq_of_lt, mod-eq_of_lt, lt_of_lt_of_le, mul-le-mul_right}
use native.Mathlib.Decide.{dec_lt}
use native.Mathlib.Omega.{arith}
use lib.Arith.{digits_lt}
use lib.Pow.{pow_mono, high, low, split, shr-shr, pow-add}
use lib.Bits.{bit_and, and_block, and_lt}
use lib.Count.{ones_cat}
use Rattle.std.proofs.Common.{Option, Some, None, SomeIff}
use Rattle.std.specs.Option.{unwrap_or}
use Rattle.paper.specs.Words.{cell, product}
use Rattle.paper.specs.Tables.{joined, cells}
use Rattle.words.proofs.Cells.{cell-low}

-- ---- products

-- of words with a block below 2 ^ k under another
product-block : (k a b r s : ℕ) → r < 2 ^ k → s < 2 ^ k → product (a * 2 ^ k + r) (b * 2 ^ k + s) ≡ (product a b + product r s) % 2
product-block k a b r s h l =
    rw (and_block k a b r s h l, ones_cat k (bit_and a b) (bit_and r s) (and_lt k r s h l)) (omega arith)

block-lt : (j k a r : ℕ) → a < 2 ^ j → r < 2 ^ k → a * 2 ^ k + r < 2 ^ (j + k)
block-lt j k a r h l = rw (pow-add 2 j k) (digits_lt h l)

module _ (k l : ℕ) where
  pub product-joined : (a b c x y z : ℕ) → a < 2 ^ k → b < 2 ^ l → x < 2 ^ k → y < 2 ^ l
      → product (joined k l a b c) (joined k l x y z) ≡ (product c z + product b y + product a x) % 2
  product-joined a b c x y z ha hb hx hy =
      product-block k (c * 2 ^ l + b) (z * 2 ^ l + y) a x ha hx
      ∙ ap (λ (t : ℕ). (t + product a x) % 2) (product-block l c z b y hb hy) ∙ omega arith

  -- ---- a row is over as many cells as its blocks

  pub joined-lt : (m a b c : ℕ) → a < 2 ^ k → b < 2 ^ l → c < 2 ^ m → joined k l a b c < 2 ^ (m + l + k)
  joined-lt m a b c ha hb hc = block-lt (m + l) k (c * 2 ^ l + b) a (block-lt m l c b hc hb) ha

  -- ---- the blocks of a row

  -- the last over the first two
  joined-whole : (a b c : ℕ) → joined k l a b c ≡ c * 2 ^ (k + l) + (b * 2 ^ k + a)
  joined-whole a b c =
      ap (λ (t : ℕ). t + a) (add-mul (c * 2 ^ l) b (2 ^ k) ∙ ap (λ (t : ℕ). t + b * 2 ^ k) (mul_assoc c (2 ^ l) (2 ^ k) ∙ ap (λ (t : ℕ). c * t) same))
      ∙ add_assoc (c * 2 ^ (k + l)) (b * 2 ^ k) a
    where
      same : 2 ^ l * 2 ^ k ≡ 2 ^ (k + l)
      same = sym (pow-add 2 l k) ∙ ap (λ (t : ℕ). 2 ^ t) (let e : l + k ≡ k + l = omega arith in e)

  front-lt : (a b : ℕ) → a < 2 ^ k → b < 2 ^ l → b * 2 ^ k + a < 2 ^ (k + l)
  front-lt a b ha hb = let e : l + k ≡ k + l = omega arith in subst (λ (t : ℕ). b * 2 ^ k + a < 2 ^ t) e (block-lt l k b a hb ha)

  module _ (a b c : ℕ) (ha : a < 2 ^ k) where
    pub joined-first : cells 0 k (joined k l a b c) ≡ a
    joined-first = ap (λ (t : ℕ). t % 2 ^ k) (div-one (joined k l a b c)) ∙ low (c * 2 ^ l + b) k ha

    joined-rest : joined k l a b c / 2 ^ k ≡ c * 2 ^ l + b
    joined-rest = high (c * 2 ^ l + b) k ha

    module _ (hb : b < 2 ^ l) where
      pub joined-middle : cells k l (joined k l a b c) ≡ b
      joined-middle = ap (λ (t : ℕ). t % 2 ^ l) joined-rest ∙ low c l hb

      -- the first two together
      pub joined-front : cells 0 (k + l) (joined k l a b c) ≡ b * 2 ^ k + a
      joined-front =
          ap (λ (t : ℕ). t % 2 ^ (k + l)) (div-one (joined k l a b c) ∙ joined-whole a b c) ∙ low c (k + l) (front-lt a b ha hb)

      joined-above : joined k l a b c / 2 ^ (k + l) ≡ c
      joined-above = sym (shr-shr (joined k l a b c) k l) ∙ ap (λ (t : ℕ). t / 2 ^ l) joined-rest ∙ high c l hb

      pub joined-last : (m : ℕ) → c < 2 ^ m → cells (k + l) m (joined k l a b c) ≡ c
      joined-last m hc = ap (λ (t : ℕ). t % 2 ^ m) joined-above ∙ mod-eq_of_lt hc

      -- ---- the cells of the middle and of the last block

      pub cell-middle : (j : ℕ) → j < l → cell (joined k l a b c) (k + j) ≡ cell b j
      cell-middle j h =
          ap (λ (t : ℕ). t % 2) (sym (shr-shr (joined k l a b c) k j))
          ∙ sym (cell-low (joined k l a b c / 2 ^ k) l j h) ∙ ap (λ (t : ℕ). cell t j) joined-middle

      pub cell-last : (j : ℕ) → cell (joined k l a b c) (k + l + j) ≡ cell c j
      cell-last j = ap (λ (t : ℕ). t % 2) (sym (shr-shr (joined k l a b c) (k + l) j)) ∙ ap (λ (t : ℕ). cell t j) joined-above

  -- ---- a word is the row of its blocks

  -- with the first two together: both are the same last block over a front
  pub front-joined : (g a b : ℕ) → cells 0 (k + l) g ≡ b * 2 ^ k + a → g ≡ joined k l a b (g / 2 ^ (k + l))
  front-joined g a b e =
      sym (split g (k + l)) ∙ ap (λ (t : ℕ). g / 2 ^ (k + l) * 2 ^ (k + l) + t) (ap (λ (t : ℕ). t % 2 ^ (k + l)) (sym (div-one g)) ∙ e)
      ∙ sym (joined-whole a b (g / 2 ^ (k + l)))

  pub joined_back : (g : ℕ) → g ≡ joined k l (cells 0 k g) (cells k l g) (g / 2 ^ (k + l))
  joined_back g =
      sym (split g k)
      ∙ ap₂ (λ (x y : ℕ). x * 2 ^ k + y)
      (sym (split (g / 2 ^ k) l) ∙ ap (λ (t : ℕ). t * 2 ^ l + g / 2 ^ k % 2 ^ l) (shr-shr g k l)) (ap (λ (t : ℕ). t % 2 ^ k) (sym (div-one g)))

-- ---- blocks that fit a word, for the code's shifts

-- a word that is not 0 is raised by less than the width
raised_by : (x by w : ℕ) → 0 < x → x * 2 ^ by < 2 ^ w → by < w
raised_by x by w p h = go (dec_lt by w)
  where
    go : Dec (by < w) → by < w
    go (yes q) = q
    go (no q) = absurd (omega (arith, pow_mono {i = w} {j = by} (omega arith), mul-le-mul_right (2 ^ by) p))

-- a checked shift up, or 0: nothing is lost of what fits, and only 0 may be raised by the width or more
pub shifted_up : (x by w y : ℕ) (r : Option ℕ) → x * 2 ^ by < 2 ^ w → SomeIff r (by < w) (x * 2 ^ by % 2 ^ w) → y ≡ unwrap_or r 0 → y ≡ x * 2 ^ by
shifted_up x by w y (Some z) h is e = e ∙ is.1 ∙ mod-eq_of_lt h
shifted_up x by w y None h is e =
    let none : 0 < x → ⊥ = λ p. is (raised_by x by w p h) in
    let zero : x ≡ 0 = omega arith in
    e ∙ sym (rw (zero, zero-mul))

-- a checked shift down, or 0: no cell is at the width or above
pub shifted_down : (x by w y : ℕ) (r : Option ℕ) → x < 2 ^ w → SomeIff r (by < w) (x / 2 ^ by) → y ≡ unwrap_or r 0 → y ≡ x / 2 ^ by
shifted_down x by w y (Some z) h is e = e ∙ is.1
shifted_down x by w y None h is e = e ∙ sym (div-eq_of_lt (lt_of_lt_of_le h (pow_mono (omega arith))))
