-- What tests that hold, or fail below a number, say of it.
-- Small steps that several files take. Assumes nothing.
use mathlib.Core.Path.{◌≡◌, refl, sym, ◌∙◌}
use mathlib.Core.Bool.{Bool, true, false, true≢false}
use Prim.Native.Nat.{ℕ, ◌≤◌, ◌<◌}
use native.Mathlib.Decide.{dec_lt}
use native.Mathlib.Omega.{arith}
use Rattle.paper.specs.First.{First, nowhere, at, first, is_somewhere, any}
use Rattle.words.proofs.Firsts.{first-at}

-- a test that does not hold fails
pub fails : (b : Bool) → (b ≡ true → ⊥) → b ≡ false
fails true f = absurd (f refl)
fails false f = refl

-- a number whose test holds is not below one below which it fails
pub not-below : {b : Bool} (i n : ℕ) → b ≡ true → (i < n → b ≡ false) → n ≤ i
not-below i n p f = go (dec_lt i n)
  where
    go : Dec (i < n) → n ≤ i
    go (yes l) = absurd (true≢false (sym p ∙ f l))
    go (no l) = omega arith

-- where some number passes, here is one
pub any_at : (p : ℕ → Bool) (n : ℕ) → any n p ≡ true → (i : ℕ) × (i < n) × (p i ≡ true)
any_at p n = go (first n p) refl
  where
    go : (f : First) → first n p ≡ f → is_somewhere f ≡ true → (i : ℕ) × (i < n) × (p i ≡ true)
    go (at i) e h = let f = first-at p n i e in (i, f.0, f.1)
    go nowhere e h = absurd (true≢false (sym h))

-- a number that is not 0
pub nonzero : {x : ℕ} → (x ≡ 0 → ⊥) → 0 < x
nonzero f = omega arith
