-- The list of words by weight: which words it holds, in which order, and how many, for any number of cells.
-- What a search of the list finds rests on these, and so does that its count fits a word. Assumes nothing.
use mathlib.Core.Path.{◌≡◌, refl, sym, ap, ap₂, ◌∙◌, subst}
use mathlib.Core.Logic.{inl, inr, ⊎_elim}
use mathlib.Core.List.Memᴰ
use mathlib.Core.List.{List, [], ◌∷◌, ◌++◌, map, Memᴰ}
use Prim.Native.Nat.{ℕ, zero, suc, ◌+◌, ◌-◌, ◌^◌, ◌≤◌, ◌<◌, min}
use native.Mathlib.Nat.{pow-suc, eq-or-lt_of_le}
use native.Mathlib.Decide.{dec_lt}
use native.Mathlib.Omega.{arith}
use lib.Arith.{lt-one}
use lib.Count.{ones}
use lib.ListN.{length, length-append, length-map}
use lib.Pow.{pow_pos, pow-lt}
use Rattle.paper.specs.Listing.{listed, weights}
use Rattle.words.proofs.Sums.{ones-zero, ones_above}
use Rattle.paper.specs.Promised.{Before}

-- ---- the ends of the list

-- one word weighs nothing
pub listed-zero : (n : ℕ) → listed n zero ≡ 0 ∷ []
unfolding listed
listed-zero zero = refl
listed-zero (suc n) = listed-zero n

-- no word weighs more than its cells
pub listed-none : (n v : ℕ) → n < v → listed n v ≡ []
unfolding listed
listed-none zero zero h = absurd (omega arith)
listed-none zero (suc v) h = refl
listed-none (suc n) zero h = absurd (omega arith)
listed-none (suc n) (suc v) h =
    ap₂ (λ (l m : List ℕ). l ++ map (λ z. z + 2 ^ n) m) (listed-none n (suc v) (omega arith)) (listed-none n v (omega arith))

-- ---- which words are listed

-- a listed word has the cells and the weight
pub listed_of : (n v z : ℕ) → Memᴰ z (listed n v) → (z < 2 ^ n) × (ones z ≡ v)
unfolding listed
listed_of zero zero z m = let e = Memᴰ.eq_of_singleton m in (omega arith, ap ones e ∙ ones-zero)
listed_of zero (suc v) z m = absurd (Memᴰ.not-nil m)
listed_of (suc n) zero z m = let h = listed_of n zero z m in (omega (arith, pow-suc 2 n), h.1)
listed_of (suc n) (suc v) z m =
    ⊎_elim (λ l. let h = listed_of n (suc v) z l in (omega (arith, pow-suc 2 n), h.1))
    (λ l.
    let a = Memᴰ.of_map (λ (x : ℕ). x + 2 ^ n) (listed n v) l in
    let h = listed_of n v a.0 a.1 in
    (omega (arith, pow-suc 2 n, a.2), ap ones (sym a.2) ∙ ones_above n a.0 h.0 ∙ ap suc h.1))
    (Memᴰ.append_cases (listed n (suc v)) m)

-- a word with the cells and the weight is listed
pub listed_in : (n v z : ℕ) → z < 2 ^ n → ones z ≡ v → Memᴰ z (listed n v)
unfolding listed
listed_in zero zero z h e = Memᴰ.head (lt-one h)
listed_in zero (suc v) z h e = absurd (omega (arith, ap ones (lt-one h), ones-zero))
listed_in (suc n) v z h e =
    elim (dec_lt z (2 ^ n)) [
      | yes l ↦ low n v (listed_in n v z l e)
      | no g ↦
          let k : z - 2 ^ n < 2 ^ n = omega (arith, pow-suc 2 n) in
          let f : z ≡ z - 2 ^ n + 2 ^ n = omega arith in
          let s : suc (ones (z - 2 ^ n)) ≡ v = sym (ones_above n (z - 2 ^ n) k) ∙ ap ones (sym f) ∙ e in
          subst (λ (w : ℕ). Memᴰ z (listed (suc n) w)) s
          (Memᴰ.append_right (listed n (suc (ones (z - 2 ^ n)))) (Memᴰ.cast f (Memᴰ.map (λ (x : ℕ). x + 2 ^ n) (listed_in n (ones (z - 2 ^ n)) (z - 2 ^ n) k refl))))
    ]
  where
    low : (n w : ℕ) → Memᴰ z (listed n w) → Memᴰ z (listed (suc n) w)
    low n zero m = m
    low n (suc w) m = Memᴰ.append_left (map (λ x. x + 2 ^ n) (listed n w)) m

-- the same for the `count` weights from v on
pub weights-of : (n v count z : ℕ) → Memᴰ z (weights n v count) → (z < 2 ^ n) × (v ≤ ones z) × (ones z < v + count)
unfolding weights
weights-of n v zero z m = absurd (Memᴰ.not-nil m)
weights-of n v (suc count) z m =
    ⊎_elim (λ l. let h = listed_of n v z l in (h.0, omega arith, omega arith))
    (λ l. let h = weights-of n (suc v) count z l in (h.0, omega arith, omega arith))
    (Memᴰ.append_cases (listed n v) m)

pub weights-in : (n v count z : ℕ) → z < 2 ^ n → v ≤ ones z → ones z < v + count → Memᴰ z (weights n v count)
unfolding weights
weights-in n v zero z h l u = absurd (omega arith)
weights-in n v (suc count) z h l u =
    ⊎_elim (λ e. Memᴰ.append_left (weights n (suc v) count) (listed_in n v z h (sym e)))
    (λ k. Memᴰ.append_right (listed n v) (weights-in n (suc v) count z h k (omega arith)))
    (eq-or-lt_of_le l)

-- ---- in which order

module _ (R : ℕ → ℕ → Type 0) where
  -- each word of the list stands in R to every later one
  abbrev pub Ordered : List ℕ → Type 0
  Ordered [] = Unit {0}
  Ordered (x ∷ xs) = ((y : ℕ) → Memᴰ y xs → R x y) × Ordered xs

  ordered-append : (xs ys : List ℕ) → Ordered xs → Ordered ys → ((x y : ℕ) → Memᴰ x xs → Memᴰ y ys → R x y) → Ordered (xs ++ ys)
  ordered-append [] ys c d f = d
  ordered-append (x ∷ xs) ys c d f = (
    λ y m. ⊎_elim (λ l. c.0 y l) (λ l. f x y (Memᴰ.head refl) l) (Memᴰ.append_cases xs m),
    ordered-append xs ys c.1 d (λ a b l m. f a b (Memᴰ.tail l) m),
  )

  ordered-map : (g : ℕ → ℕ) → ((x y : ℕ) → R x y → R (g x) (g y)) → (l : List ℕ) → Ordered l → Ordered (map g l)
  ordered-map g f [] c = tt
  ordered-map g f (x ∷ xs) c = (
    λ y m. let a = Memᴰ.of_map g xs m in subst (λ (w : ℕ). R (g x) w) a.2 (f x a.0 (c.0 a.0 a.1)),
    ordered-map g f xs c.1,
  )

  -- of a word and one that stands after it
  pub ordered-after : (xs : List ℕ) (x : ℕ) (ys : List ℕ) → Ordered (xs ++ x ∷ ys) → (y : ℕ) → Memᴰ y ys → R x y
  ordered-after [] x ys c y m = c.0 y m
  ordered-after (a ∷ xs) x ys c y m = ordered-after xs x ys c.1 y m

-- an order that follows from another for the words of the list
ordered-to : (R S : ℕ → ℕ → Type 0) (l : List ℕ) → ((x y : ℕ) → Memᴰ x l → Memᴰ y l → R x y → S x y) → Ordered R l → Ordered S l
ordered-to R S [] f c = tt
ordered-to R S (x ∷ xs) f c = (
  λ y m. f x y (Memᴰ.head refl) (Memᴰ.tail m) (c.0 y m),
  ordered-to R S xs (λ a b l m. f a b (Memᴰ.tail l) (Memᴰ.tail m)) c.1,
)

-- strictly rising, so that each word stands once
abbrev pub Rising : List ℕ → Type 0
Rising = Ordered ◌<◌

-- within a weight: "then by value"
pub listed-rising : (n v : ℕ) → Rising (listed n v)
unfolding listed
listed-rising zero zero = (λ y m. absurd (Memᴰ.not-nil m), tt)
listed-rising zero (suc v) = tt
listed-rising (suc n) zero = listed-rising n zero
listed-rising (suc n) (suc v) =
    ordered-append ◌<◌ (listed n (suc v)) (map (λ z. z + 2 ^ n) (listed n v)) (listed-rising n (suc v))
    (ordered-map ◌<◌ (λ z. z + 2 ^ n) (λ x y l. omega arith) (listed n v) (listed-rising n v))
    (λ x y l m. omega (arith, (Memᴰ.of_map (λ (z : ℕ). z + 2 ^ n) (listed n v) m).2, listed_of n (suc v) x l))

-- over several weights: "by weight (number of ones), then by value"
pub weights-ordered : (n v count : ℕ) → Ordered Before (weights n v count)
unfolding weights
weights-ordered n v zero = tt
weights-ordered n v (suc count) =
    ordered-append Before (listed n v) (weights n (suc v) count)
    (ordered-to ◌<◌ Before (listed n v) (λ x y l m h. inr (omega (arith, listed_of n v x l, listed_of n v y m), omega arith)) (listed-rising n v))
    (weights-ordered n (suc v) count)
    (λ x y l m. inl (omega (arith, listed_of n v x l, weights-of n (suc v) count y m)))

-- ---- how many

pub length-zero : (n : ℕ) → length (listed n zero) ≡ 1
length-zero n = ap length (listed-zero n)

-- one cell more: Pascal's rule
pub length-step : (n v : ℕ) → length (listed (suc n) (suc v)) ≡ length (listed n (suc v)) + length (listed n v)
unfolding listed
length-step n v = simp (length-append, length-map)

pub weights-nil : (n v : ℕ) → length (weights n v zero) ≡ 0
unfolding weights
weights-nil n v = refl

pub weights-cons : (n v count : ℕ) → length (weights n v (suc count)) ≡ length (listed n v) + length (weights n (suc v) count)
unfolding weights
weights-cons n v count = length-append (listed n v) (weights n (suc v) count)

-- no cells hold no weight
weights-none : (v count : ℕ) → length (weights zero (suc v) count) ≡ 0
weights-none v zero = weights-nil zero (suc v)
weights-none v (suc count) =
    omega (arith, weights-cons zero (suc v) count, weights-none (suc v) count, ap length (listed-none zero (suc v) (omega arith)))

-- Pascal's rule over several weights
weights-step : (n v count : ℕ) → length (weights (suc n) (suc v) count) ≡ length (weights n (suc v) count) + length (weights n v count)
weights-step n v zero = omega (arith, weights-nil (suc n) (suc v), weights-nil n (suc v), weights-nil n v)
weights-step n v (suc count) =
    omega (arith, weights-step n (suc v) count, weights-cons (suc n) (suc v) count, weights-cons n (suc v) count, weights-cons n v count, length-step n v)

-- at most all words over n cells, and fewer where weight n is left out
weights-most : (n v count : ℕ) → length (weights n v count) < 2 ^ n + min 1 (v + count - n)
weights-most zero zero zero = omega (arith, weights-nil zero zero)
weights-most zero zero (suc count) = omega (arith, weights-cons zero zero count, length-zero zero, weights-none zero count)
weights-most zero (suc v) count = omega (arith, weights-none v count)
weights-most (suc n) zero zero = omega (arith, weights-nil (suc n) zero, pow_pos (suc n))
weights-most (suc n) zero (suc count) =
    omega (
      arith,
      weights-cons (suc n) zero count,
      weights-cons n zero count,
      length-zero n,
      length-zero (suc n),
      weights-step n zero count,
      weights-most n zero (suc count),
      weights-most n zero count,
      pow-suc 2 n,
    )
weights-most (suc n) (suc v) count =
    omega (arith, weights-step n v count, weights-most n (suc v) count, weights-most n v count, pow-suc 2 n)

-- so the count of the words of weights below w fits a word of w cells
pub weights-fit : (w n v count : ℕ) → n ≤ w → v + count ≤ w → length (weights n v count) < 2 ^ w
weights-fit w n v count h g =
    ⊎_elim (λ e. subst (λ (m : ℕ). length (weights n v count) < 2 ^ m) e (omega (arith, weights-most n v count)))
    (λ l. omega (arith, weights-most n v count, pow-lt l)) (eq-or-lt_of_le h)
