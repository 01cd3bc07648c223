-- Two comparisons asked together, as the rules ask them: a cap of 1 to 8, a plate number of 1 to 9, a page and a list that are few enough.
-- For the code that judges by such a test, and for what is told by it. Assumes nothing.
use mathlib.Core.Path.{◌≡◌, refl}
use mathlib.Core.Bool.{Bool, true, false, ◌&&◌, true≢false, and-eq-true_iff, and-false}
use mathlib.Core.Logic.{◌⊎◌, inl, inr, ◌↔◌}
use Prim.Native.Nat.{ℕ, ◌≤◌, ◌<◌}
use native.Mathlib.Omega.{arith}
use borrow.Author.Tests.{leb-true, leb-false, le-leb, lt-leb}
use lib.Dec.{leb}

module _ (a b c d : ℕ) where
  -- the test passes where both hold
  pub both : ((leb a b && leb c d) ≡ true) ↔ ((a ≤ b) × (c ≤ d))
  both = (
    λ e. let p = (and-eq-true_iff (leb a b) (leb c d)).0 e in (leb-true a b p.0, leb-true c d p.1),
    λ h. rw (le-leb a b h.0, le-leb c d h.1),
  )

  -- and fails where one of them does
  pub not-both : ((leb a b && leb c d) ≡ false) ↔ ((b < a) ⊎ (d < c))
  not-both = (to (leb a b) (leb c d) refl refl, from)
    where
      to : (p q : Bool) → leb a b ≡ p → leb c d ≡ q → (p && q) ≡ false → (b < a) ⊎ (d < c)
      to true true p q e = absurd (true≢false e)
      to true false p q e = inr (leb-false c d q)
      to false r p q e = inl (leb-false a b p)

      from : (b < a) ⊎ (d < c) → (leb a b && leb c d) ≡ false
      from (inl h) = rw (lt-leb a b h)
      from (inr h) = rw (lt-leb c d h, and-false (leb a b))

-- outside of 1 to a limit
pub outside : (most x : ℕ) → ((leb 1 x && leb x most) ≡ false) ↔ ((x ≡ 0) ⊎ (most < x))
outside most x = (λ e. to ((not-both 1 x x most).0 e), λ h. (not-both 1 x x most).1 (from h))
  where
    to : (x < 1) ⊎ (most < x) → (x ≡ 0) ⊎ (most < x)
    to (inl h) = inl (omega arith)
    to (inr h) = inr h

    from : (x ≡ 0) ⊎ (most < x) → (x < 1) ⊎ (most < x)
    from (inl h) = inl (omega arith)
    from (inr h) = inr h
