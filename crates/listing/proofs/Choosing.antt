-- How many words of a weight there are, each number from the one before. For the proof of `ways`. Assumes nothing.
use mathlib.Core.Path.{◌≡◌, sym, ap, ap₂, ◌∙◌}
use Prim.Native.Nat.{ℕ, zero, suc, ◌+◌, ◌-◌, ◌*◌, ◌/◌, ◌%◌, ◌^◌, ◌≤◌, ◌<◌}
use native.Mathlib.Nat.{zero-mul, mul-zero, mul-one, one-mul, add-mul, mul-add, mul_right_comm, mul-le-mul, mod-lt, mul-div_cancel, mul-add-div_right, div-add-mod'}
use native.Mathlib.Numerals.{add-one}
use native.Mathlib.Decide.{dec_le}
use native.Mathlib.Omega.{arith}
use lib.ListN.{length}
use Rattle.paper.specs.Words.{width}
use Rattle.paper.specs.Listing.{listed}
use Rattle.listing.proofs.Listed.{listed-none, length-zero, length-step, weights-fit, weights-cons, weights-nil}

count_none : (n v : ℕ) → n < v → length (listed n v) ≡ 0
count_none n v h = ap length (listed-none n v h)

-- the cells taken, times the words; the cells left, times the words of one cell less
count_next : (n i : ℕ) → length (listed n (suc i)) * suc i ≡ length (listed n i) * (n - i)
count_next zero i =
    let e : 0 - i ≡ 0 = omega arith in
    rw (e, count_none 0 (suc i) (omega arith), zero-mul (suc i), mul-zero (length (listed 0 i)))
count_next (suc n) zero =
    omega (
      arith,
      count_next n zero,
      length-step n zero,
      length-zero n,
      mul-one (length (listed n 1)),
      mul-one (length (listed (suc n) 1)),
      ap (λ (c : ℕ). c * (n - 0)) (length-zero n),
      ap (λ (c : ℕ). c * (suc n - 0)) (length-zero (suc n)),
      one-mul (n - 0),
      one-mul (suc n - 0),
    )
count_next (suc n) (suc j) =
    ap (λ (x : ℕ). x * suc (suc j)) (length-step n (suc j))
    ∙ add-mul (length (listed n (suc (suc j)))) (length (listed n (suc j))) (suc (suc j))
    ∙ ap (λ (x : ℕ). x + length (listed n (suc j)) * suc (suc j)) (count_next n (suc j))
    ∙ go (dec_le (suc j) n)
    ∙ sym
    (ap (λ (x : ℕ). x * (suc n - suc j)) (length-step n j) ∙ add-mul (length (listed n (suc j))) (length (listed n j)) (suc n - suc j)
    ∙ ap (λ (m : ℕ). length (listed n (suc j)) * m + length (listed n j) * m) less
    ∙ ap (λ (x : ℕ). length (listed n (suc j)) * (n - j) + x) (sym (count_next n j)))
  where
    less : suc n - suc j ≡ n - j
    less = omega arith

    go : Dec (suc j ≤ n)
        → length (listed n (suc j)) * (n - suc j) + length (listed n (suc j)) * suc (suc j)
        ≡ length (listed n (suc j)) * (n - j) + length (listed n (suc j)) * suc j
    go (yes l) =
        let e : (n - suc j) + suc (suc j) ≡ (n - j) + suc j = omega arith in
        sym (mul-add (length (listed n (suc j))) (n - suc j) (suc (suc j))) ∙ ap (λ (m : ℕ). length (listed n (suc j)) * m) e
        ∙ mul-add (length (listed n (suc j))) (n - j) (suc j)
    go (no l) =
        let e = count_none n (suc j) (omega arith) in
        rw (e, zero-mul (n - suc j), zero-mul (suc (suc j)), zero-mul (n - j), zero-mul (suc j))

-- a product divided, the division first and its rest after
div-first : (b m k q : ℕ) → 0 < k → b * m ≡ q * k → b / k * m + b % k * m / k ≡ q
div-first b m k q h e =
    let f : b / k * m * k + b % k * m ≡ q * k = ap (λ (x : ℕ). x + b % k * m) (mul_right_comm (b / k) m k) ∙ sym (add-mul (b / k * k) (b % k) m) ∙ ap (λ (x : ℕ). x * m) (div-add-mod' b k) ∙ e in
    sym (mul-add-div_right h (b / k * m) (b % k * m)) ∙ ap (λ (x : ℕ). x / k) f ∙ mul-div_cancel q h

-- one step of the code, which has the number b of the words before
module _ (n i : ℕ) {b m : ℕ} (e : b ≡ length (listed n i)) (f : m ≡ n - i) where
  pub ways-step : b / (i + 1) * m + b % (i + 1) * m / (i + 1) ≡ length (listed n (i + 1))
  ways-step =
      div-first b m (i + 1) (length (listed n (i + 1))) (omega arith)
      (ap₂ ◌*◌ e f ∙ sym (count_next n i) ∙ ap (λ (k : ℕ). length (listed n k) * k) (sym (add-one i)))

  -- it fits a word
  pub ways-fits : n ≤ width → i + 1 < width → b / (i + 1) * m + b % (i + 1) * m / (i + 1) < 2 ^ width
  ways-fits h l =
      omega (arith, ways-step, weights-fit width n (i + 1) 1 h (omega arith), weights-cons n (i + 1) 0, weights-nil n (suc (i + 1)))

  pub rest-fits : n ≤ width → i + 1 < width → b % (i + 1) * m < 2 ^ width
  rest-fits h l =
      let g : b % (i + 1) * m ≤ 64 * 64 = mul-le-mul {n₁ = b % (i + 1)} {m₁ = m} {n₂ = 64} {m₂ = 64} (omega (arith, mod-lt b {m = i + 1} (omega arith))) (omega arith) in
      omega arith
