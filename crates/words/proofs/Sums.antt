-- The sum of two words: a group, cell by cell and within the same cells; and the weight of a sum.
-- For everything that adds words: `simp sums` proves their identities. Assumes nothing.
use mathlib.Core.Path.{◌≡◌, refl, sym, ap, ap₂, ◌∙◌, subst}
use mathlib.Core.Bool.{cond}
use mathlib.Core.Logic.{◌⊎◌, inl, inr, ◌↔◌, ⊎_elim}
use Prim.Native.Nat.{ℕ, zero, suc, ◌+◌, ◌-◌, ◌*◌, ◌/◌, ◌%◌, ◌^◌, ◌≤◌, ◌<◌, min}
use native.Mathlib.Nat.{zero-lt-suc, pow-suc, zero-mul, one-mul, add-zero, le_refl, eq-zero-or-pos}
use native.Mathlib.Numerals.{add-one}
use native.Mathlib.Decide.{dec_lt}
use native.Mathlib.Omega.{arith}
use borrow.Author.Tests.{le-leb, lt-leb}
use lib.Dec.{leb}
use lib.Arith.{bin_ind, lt-one}
use lib.Pow.{pow_pos}
use lib.Bits.{bit_and, bit_or, and_comm, or_zero_l, xor_add_and, xor_shr, xor_comm, xor_self, xor_zero_r, xor_lt, xor_mod, xor_block, xor_shifted}
use lib.Count.{ones, ones_step, ones_cat}
use Rattle.paper.specs.Words.{cell, ◌⊕◌}
use Rattle.words.proofs.Cells.{by-half, parity, by-parity, and-half, and-odd, or-half, or-odd, half_lt, cell-suc, cell-0, cell-and, cell-lt, cell-low, cell-low-above, ext-all}

-- ---- the lowest cell and the rest

pub ⊕-half : (a b : ℕ) → (a ⊕ b) / 2 ≡ a / 2 ⊕ b / 2
unfolding ◌⊕◌
⊕-half a b = xor_shr a b 1

pub ⊕-odd : (a b : ℕ) → (a ⊕ b) % 2 ≡ (a + b) % 2
unfolding ◌⊕◌
⊕-odd a b = omega (arith, xor_add_and a b)

-- ---- a group in which each word is its own inverse

pub ⊕-comm : (a b : ℕ) → a ⊕ b ≡ b ⊕ a
unfolding ◌⊕◌
⊕-comm a b = xor_comm a b

pub ⊕-self : (a : ℕ) → a ⊕ a ≡ 0
unfolding ◌⊕◌
⊕-self a = xor_self a

pub ⊕-zero-l : (a : ℕ) → 0 ⊕ a ≡ a
unfolding ◌⊕◌
⊕-zero-l a = refl

pub ⊕-zero-r : (a : ℕ) → a ⊕ 0 ≡ a
unfolding ◌⊕◌
⊕-zero-r a = xor_zero_r a

pub ⊕-assoc : (a b c : ℕ) → (a ⊕ b) ⊕ c ≡ a ⊕ (b ⊕ c)
⊕-assoc =
    bin_ind (λ (a : ℕ). (b c : ℕ) → (a ⊕ b) ⊕ c ≡ a ⊕ (b ⊕ c)) (λ b c. rw (⊕-zero-l b) (sym (⊕-zero-l (b ⊕ c))))
    (λ a ih b c. by-half (simp ⊕-half (ih (b / 2) (c / 2))) (left a b c ∙ sym (right a b c)))
  where
    left : (a b c : ℕ) → ((a ⊕ b) ⊕ c) % 2 ≡ (a + b + c) % 2
    left a b c = omega (arith, ⊕-odd (a ⊕ b) c, ⊕-odd a b)

    right : (a b c : ℕ) → (a ⊕ (b ⊕ c)) % 2 ≡ (a + b + c) % 2
    right a b c = omega (arith, ⊕-odd a (b ⊕ c), ⊕-odd b c)

pub ⊕-left-comm : (a b c : ℕ) → a ⊕ (b ⊕ c) ≡ b ⊕ (a ⊕ c)
⊕-left-comm a b c = sym (⊕-assoc a b c) ∙ ap (λ (x : ℕ). x ⊕ c) (⊕-comm a b) ∙ ⊕-assoc b a c

-- a word added twice is gone
pub ⊕-cancel : (a b : ℕ) → a ⊕ (a ⊕ b) ≡ b
⊕-cancel a b = sym (⊕-assoc a a b) ∙ ap (λ (x : ℕ). x ⊕ b) (⊕-self a) ∙ ⊕-zero-l b

-- `simp sums` proves any identity of sums: it sorts a sum and drops what stands in it twice
pub ruleset sums = (⊕-assoc, ⊕-comm, ⊕-left-comm, ⊕-cancel, ⊕-self, ⊕-zero-l, ⊕-zero-r)

pub ⊕-zero-eq : (a b : ℕ) → a ⊕ b ≡ 0 → a ≡ b
⊕-zero-eq a b h = sym (⊕-zero-r a) ∙ ap (λ (x : ℕ). a ⊕ x) (sym h) ∙ ⊕-cancel a b

-- the middle two change places
pub ⊕-swap : (a b c d : ℕ) → (a ⊕ b) ⊕ (c ⊕ d) ≡ (a ⊕ c) ⊕ (b ⊕ d)
⊕-swap a b c d = simp sums

-- ---- cells

pub cell-⊕ : (a b i : ℕ) → cell (a ⊕ b) i ≡ (cell a i + cell b i) % 2
unfolding ◌⊕◌
cell-⊕ a b i = rw xor_shr (omega (arith, xor_add_and (a / 2 ^ i) (b / 2 ^ i)))

pub ⊕-lt : (n a b : ℕ) → a < 2 ^ n → b < 2 ^ n → a ⊕ b < 2 ^ n
unfolding ◌⊕◌
⊕-lt n a b = xor_lt n a b

pub ⊕-mod : (a b n : ℕ) → (a ⊕ b) % 2 ^ n ≡ (a % 2 ^ n) ⊕ (b % 2 ^ n)
unfolding ◌⊕◌
⊕-mod a b n = xor_mod a b n

⊕-block : (n a b r s : ℕ) → r < 2 ^ n → s < 2 ^ n → (a * 2 ^ n + r) ⊕ (b * 2 ^ n + s) ≡ (a ⊕ b) * 2 ^ n + (r ⊕ s)
unfolding ◌⊕◌
⊕-block = xor_block

-- the cells at n or above alone
pub cell-strays : (x n i : ℕ) → cell (x ⊕ x % 2 ^ n) i ≡ cond (leb n i) (cell x i) 0
cell-strays x n i = cell-⊕ x (x % 2 ^ n) i ∙ go (dec_lt i n)
  where
    go : Dec (i < n) → (cell x i + cell (x % 2 ^ n) i) % 2 ≡ cond (leb n i) (cell x i) 0
    go (yes h) = rw (lt-leb n i h, cell-low x n i h) (omega arith)
    go (no h) = let l : n ≤ i = omega arith in rw (le-leb n i l, cell-low-above x n i l) (omega (arith, cell-lt x i))

-- two words with the same highest cell have a sum without it
pub top-cancel : (n a b : ℕ) → 2 ^ n ≤ a → a < 2 ^ suc n → 2 ^ n ≤ b → b < 2 ^ suc n → a ⊕ b < 2 ^ n
top-cancel n a b h l p q =
    let c : a - 2 ^ n < 2 ^ n = omega (arith, pow-suc 2 n) in
    let d : b - 2 ^ n < 2 ^ n = omega (arith, pow-suc 2 n) in
    let u : a ≡ 1 * 2 ^ n + (a - 2 ^ n) = omega arith in
    let v : b ≡ 1 * 2 ^ n + (b - 2 ^ n) = omega arith in
    let e : a ⊕ b ≡ (1 ⊕ 1) * 2 ^ n + ((a - 2 ^ n) ⊕ (b - 2 ^ n)) = ap₂ ◌⊕◌ u v ∙ ⊕-block n 1 1 (a - 2 ^ n) (b - 2 ^ n) c d in
    let z : (1 ⊕ 1) * 2 ^ n ≡ 0 = ap (λ (x : ℕ). x * 2 ^ n) (⊕-self 1) ∙ zero-mul (2 ^ n) in
    omega (arith, ⊕-lt n (a - 2 ^ n) (b - 2 ^ n) c d)

-- a cell above all others is added
pub ⊕-above : (n z : ℕ) → z < 2 ^ n → 2 ^ n ⊕ z ≡ z + 2 ^ n
unfolding ◌⊕◌
⊕-above n z h = rw (← one-mul (2 ^ n), xor_shifted 1 n z h) (omega arith)

-- the sum at the cells of a mask
pub and-⊕ : (m a b : ℕ) → bit_and m (a ⊕ b) ≡ bit_and m a ⊕ bit_and m b
and-⊕ m a b =
    ext-all
    (λ i. rw (cell-and m (a ⊕ b) i, cell-⊕ a b i, cell-⊕ (bit_and m a) (bit_and m b) i, cell-and m a i, cell-and m b i)
    (both (cell m i) (cell a i) (cell b i) (cell-lt m i) (cell-lt a i) (cell-lt b i)))
  where
    both : (x y z : ℕ) → x < 2 → y < 2 → z < 2 → min x ((y + z) % 2) ≡ (min x y + min x z) % 2
    both zero y z h l m = omega arith
    both (suc x) zero z h l m = omega arith
    both (suc x) (suc y) zero h l m = omega arith
    both (suc x) (suc y) (suc z) h l m = omega arith

-- the same with the mask behind
pub ⊕-masked : (m a b : ℕ) → bit_and (a ⊕ b) m ≡ bit_and a m ⊕ bit_and b m
⊕-masked m a b = rw (and_comm (a ⊕ b) m, and_comm a m, and_comm b m) (and-⊕ m a b)

-- a sum has the levels at the cells of a mask exactly if one of its words has there what the other and the levels differ in
pub on-mask : (a b levels m : ℕ) → bit_and levels m ≡ levels → (bit_and (a ⊕ b) m ≡ levels) ↔ (bit_and b m ≡ bit_and (a ⊕ levels) m)
on-mask a b levels m h =
    (λ e. move (bit_and a m) _ _ (sym (⊕-masked m a b) ∙ e) ∙ sym target, λ e. ⊕-masked m a b ∙ sym (move _ _ _ (sym (e ∙ target))))
  where
    target : bit_and (a ⊕ levels) m ≡ bit_and a m ⊕ levels
    target = ⊕-masked m a levels ∙ ap (λ (x : ℕ). bit_and a m ⊕ x) h

    move : (x y v : ℕ) → x ⊕ y ≡ v → y ≡ x ⊕ v
    move x y v e = sym (⊕-cancel x y) ∙ ap (λ (z : ℕ). x ⊕ z) e

-- ---- a word taken once or not at all: d % 2 * g

pub pick-⊕ : (d e g : ℕ) → (d ⊕ e) % 2 * g ≡ d % 2 * g ⊕ e % 2 * g
pick-⊕ d e g =
    by-parity d
    (λ p. by-parity e (λ q. at p q (omega (arith, ⊕-odd d e)) (zero-mul g ∙ sym (ap₂ ◌⊕◌ (zero-mul g) (zero-mul g) ∙ ⊕-self 0)))
    (λ q. at p q (omega (arith, ⊕-odd d e)) (sym (ap (λ (x : ℕ). x ⊕ 1 * g) (zero-mul g) ∙ ⊕-zero-l (1 * g)))))
    (λ p. by-parity e (λ q. at p q (omega (arith, ⊕-odd d e)) (sym (ap (λ (x : ℕ). 1 * g ⊕ x) (zero-mul g) ∙ ⊕-zero-r (1 * g))))
    (λ q. at p q (omega (arith, ⊕-odd d e)) (zero-mul g ∙ sym (⊕-self (1 * g)))))
  where
    at : {u v w : ℕ} → d % 2 ≡ u → e % 2 ≡ v → (d ⊕ e) % 2 ≡ w → w * g ≡ u * g ⊕ v * g → (d ⊕ e) % 2 * g ≡ d % 2 * g ⊕ e % 2 * g
    at p q s h = ap (λ (x : ℕ). x * g) s ∙ h ∙ sym (ap₂ (λ (x y : ℕ). x * g ⊕ y * g) p q)

-- ---- the weight

pub ones-zero : ones 0 ≡ 0
unfolding ones
ones-zero = refl

-- the cells of a sum, and twice the cells that both have, are the cells of the two
pub ones-⊕-and : (a b : ℕ) → ones (a ⊕ b) + 2 * ones (bit_and a b) ≡ ones a + ones b
ones-⊕-and =
    bin_ind (λ (a : ℕ). (b : ℕ) → ones (a ⊕ b) + 2 * ones (bit_and a b) ≡ ones a + ones b)
    (λ b. omega (arith, ones-zero, ap ones (⊕-zero-l b)))
    (λ a ih b. omega (
      arith,
      ih (b / 2),
      ones_step (a ⊕ b),
      ones_step (bit_and a b),
      ones_step a,
      ones_step b,
      ap ones (⊕-half a b),
      ap ones (and-half a b),
      ⊕-odd a b,
      and-odd a b,
    ))

-- "the weight's triangle inequality"
pub ones-⊕ : (a b : ℕ) → ones (a ⊕ b) ≤ ones a + ones b
ones-⊕ a b = omega (arith, ones-⊕-and a b)

pub ones-zero-eq : (a : ℕ) → ones a ≡ 0 → a ≡ 0
ones-zero-eq =
    bin_ind (λ (a : ℕ). ones a ≡ 0 → a ≡ 0) (λ h. refl)
    (λ a ih h. let e : a / 2 ≡ 0 = ih (omega (arith, ones_step a)) in omega (arith, ones_step a))

pub ones_pos : (a : ℕ) → 0 < a → 0 < ones a
ones_pos a h = ⊎_elim (λ e. omega (arith, ones-zero-eq a e)) (λ p. p) (eq-zero-or-pos (ones a))

pub ones-and-le : (a m : ℕ) → ones (bit_and a m) ≤ ones m
ones-and-le =
    bin_ind (λ (a : ℕ). (m : ℕ) → ones (bit_and a m) ≤ ones m) (λ m. omega (arith, ones-zero))
    (λ a ih m. omega (arith, ih (m / 2), ones_step (bit_and a m), ones_step m, and-odd a m, ap ones (and-half a m)))

-- no more cells than the two words have, taken together
pub ones-or : (a b : ℕ) → ones (bit_or a b) ≤ ones a + ones b
ones-or =
    bin_ind (λ (a : ℕ). (b : ℕ) → ones (bit_or a b) ≤ ones a + ones b) (λ b. omega (arith, ap ones (or_zero_l b)))
    (λ a ih b. omega (arith, ih (b / 2), ones_step (bit_or a b), ones_step a, ones_step b, or-odd a b, ap ones (or-half a b)))

pub ones-unit : (i : ℕ) → ones (2 ^ i) ≡ 1
unfolding ones
ones-unit i = rw (← one-mul (2 ^ i), ← add-zero (1 * 2 ^ i)) (ones_cat i 1 0 (pow_pos i))

pub ones_above : (n z : ℕ) → z < 2 ^ n → ones (z + 2 ^ n) ≡ suc (ones z)
ones_above n z h = let e : z + 2 ^ n ≡ 1 * 2 ^ n + z = omega arith in rw (e, ones_cat n 1 z h) (omega (arith, ones-unit 0))

-- a word with every one of n cells
pub ones-all : (n x : ℕ) → x < 2 ^ n → ((i : ℕ) → i < n → cell x i ≡ 1) → ones x ≡ n
ones-all zero x h f = ap ones (lt-one h) ∙ ones-zero
ones-all (suc n) x h f =
    omega (arith, ones_step x, ones-all n (x / 2) (half_lt n h) (λ i l. sym (cell-suc x i) ∙ f (suc i) (omega arith)), f 0 (omega arith), cell-0 x)

-- a word cut in two parts that share no cell, the first of weight v
pub record Split (n c v : ℕ) : Type 0 where
  pub part : ℕ
  pub rest : ℕ
  pub part-lt : part < 2 ^ n
  pub rest_lt : rest < 2 ^ n
  pub sum : part ⊕ rest ≡ c
  pub part-weight : ones part ≡ v
  pub rest-weight : ones rest + v ≡ ones c

ones-join : (x e : ℕ) → e < 2 → ones (2 * x + e) ≡ ones x + e
ones-join x e h = omega (arith, ones_step (2 * x + e), ap ones (let g : (2 * x + e) / 2 ≡ x = omega arith in g))

⊕-join : (x y e c : ℕ) → e < 2 → x ⊕ y ≡ c / 2 → c % 2 ≡ e → (2 * x + e) ⊕ (2 * y + 0) ≡ c
⊕-join x y e c h p q =
    by-half
    (⊕-half (2 * x + e) (2 * y + 0)
    ∙ ap₂ ◌⊕◌ (let g : (2 * x + e) / 2 ≡ x = omega arith in g) (let g : (2 * y + 0) / 2 ≡ y = omega arith in g) ∙ p)
    (omega (arith, ⊕-odd (2 * x + e) (2 * y + 0)))

split-join : (n c v e : ℕ) → e < 2 → c % 2 ≡ e → Split n (c / 2) v → Split (suc n) c (v + e)
split-join n c v e h q s = record {
  part = 2 * s.part + e;
  rest = 2 * s.rest + 0;
  part-lt = omega (arith, pow-suc 2 n);
  rest_lt = omega (arith, pow-suc 2 n);
  sum = ⊕-join s.part s.rest e c h s.sum q;
  part-weight = omega (arith, ones-join s.part e h);
  rest-weight = omega (arith, ones-join s.rest 0 (zero-lt-suc 1), ones_step c);
}

-- a word of weight v or more can be so cut
pub weight-split : (n c v : ℕ) → c < 2 ^ n → v ≤ ones c → Split n c v
weight-split n c zero h l = record {
  part = 0;
  rest = c;
  part-lt = pow_pos n;
  rest_lt = h;
  sum = ⊕-zero-l c;
  part-weight = ones-zero;
  rest-weight = omega arith;
}
weight-split zero c (suc v) h l = absurd (omega (arith, ap ones (let g : c ≡ 0 = omega arith in g), ones-zero))
weight-split (suc n) c (suc v) h l =
    go (parity c) (λ m. weight-split n (c / 2) (suc v) half m) (λ m. weight-split n (c / 2) v half m)
  where
    half : c / 2 < 2 ^ n
    half = omega (arith, pow-suc 2 n)

    go : (c % 2 ≡ 0) ⊎ (c % 2 ≡ 1) → (suc v ≤ ones (c / 2) → Split n (c / 2) (suc v)) → (v ≤ ones (c / 2) → Split n (c / 2) v)
        → Split (suc n) c (suc v)
    go (inl e) f g = subst (Split (suc n) c) (add-zero (suc v)) (split-join n c (suc v) 0 (zero-lt-suc 1) e (f (omega (arith, ones_step c))))
    go (inr e) f g = subst (Split (suc n) c) (add-one v) (split-join n c v 1 (le_refl 2) e (g (omega (arith, ones_step c))))
