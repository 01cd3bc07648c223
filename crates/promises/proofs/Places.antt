-- "the place of z in the list, counted from 1": what the number tried is, for reading and for both measurements, and that there is one such number.
-- Demand 2's "tried" and the plate's say it by this. Assumes nothing.
use mathlib.Core.Path.{◌≡◌, sym, ◌∙◌, subst}
use mathlib.Core.Bool.{Bool, true, true≢false}
use mathlib.Core.List.{List}
use Prim.Native.Nat.{ℕ, ◌-◌, ◌<◌}
use native.Mathlib.Omega.{arith}
use Rattle.paper.specs.Listing.{found, search}
use Rattle.paper.specs.Promised.{Placed}
use Rattle.listing.proofs.Searched.{found-place}

module _ {P : ℕ → Type 0} {list : List ℕ} where
  -- what a search finds by a test that all with P pass
  pub found-placed : (p : ℕ → Bool) {z tried : ℕ} → ((x : ℕ) → P x → p x ≡ true) → search p 0 list ≡ found z tried → P z → Placed P list z tried
  found-placed p all e h =
      let f = found-place p list e in
      record { some = f.0; inside = f.1; stands = f.2; hit = h; first = λ j l q. true≢false (sym (all _ q) ∙ f.3 j l) }

  -- there is one first, and one place
  pub placed-once : {z z' tried tried' : ℕ} → Placed P list z tried → Placed P list z' tried' → tried ≡ tried'
  placed-once a b = let p = never a b in let q = never b a in omega arith
    where
      never : {z z' t t' : ℕ} → Placed P list z t → Placed P list z' t' → t < t' → ⊥
      never {z} {z'} {t} a b l = b.first (t - 1) (omega (arith, a.some)) (subst P (sym a.stands) a.hit)
