-- Too many slots or records are told alike, by the sheet's refusals, 16 or 13, whatever would come next. So code may clip a page or records at one more than there may be. Assumes nothing.
use mathlib.Core.Path.{◌≡◌, refl, sym, ap, ◌∙◌}
use mathlib.Core.Bool.{false}
use mathlib.Core.List.{List, []}
use Prim.Native.Nat.{ℕ, ◌+◌, ◌≤◌}
use native.Mathlib.Decide.{dec_le}
use native.Mathlib.Omega.{arith}
use borrow.Author.Tests.{lt-leb}
use lib.Dec.{leb}
use lib.ListN.{length, take, length-take}
use lib.Seq.{take_all}
use Rattle.paper.specs.Page.{paged}
use Rattle.paper.specs.Refusals.{Told, refusal}
use Rattle.paper.specs.Sheet.{Sheet}
use Rattle.rules.proofs.Stages.{Stage, passes, refuses}
use Rattle.opening.proofs.Judging.{paged-stage}

module _ (s : Sheet) (number : ℕ) where
  -- 13 stops whatever comes next
  pub crowded-alike : (next next' : Told) → paged s number false next ≡ paged s number false next'
  unfolding paged
  crowded-alike next next' = refl

  -- so it is a refusal that is told
  pub crowded-refused : (m : ℕ) × (given : List ℕ) × ((next : Told) → paged s number false next ≡ refusal m given)
  unfolding paged
  crowded-refused = go (paged-stage s number false)
    where
      go : Stage (paged s number false) → (m : ℕ) × (given : List ℕ) × ((next : Told) → paged s number false next ≡ refusal m given)
      go (passes p) = (13, [], λ next. p (refusal 13 []))
      go (refuses m given p) = (m, given, p)

-- what is said alike of every list that is too long is said alike of a list and of its first elements, one more than there may be
pub clipped : {A B : Type 0} (most : ℕ) (xs : List A) (say : List A → B) (z : B) → ((ys : List A) → leb (length ys) most ≡ false → say ys ≡ z)
    → say (take (most + 1) xs) ≡ say xs
clipped most xs say z alike = go (dec_le (length xs) most)
  where
    go : Dec (length xs ≤ most) → say (take (most + 1) xs) ≡ say xs
    go (yes h) = ap say (take_all (most + 1) xs (omega arith))
    go (no h) =
        alike (take (most + 1) xs) (lt-leb (length (take (most + 1) xs)) most (omega (arith, h, length-take (most + 1) xs)))
        ∙ sym (alike xs (lt-leb (length xs) most (omega (arith, h))))
