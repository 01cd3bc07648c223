-- Tests of the code, said of what the definitions test, and tests that say the same.
-- For the loops that judge a sheet, and for sheets that are told alike. Assumes nothing.
use mathlib.Core.Path.{◌≡◌, sym, ap, ◌∙◌}
use mathlib.Core.Bool.{Bool, true, false}
use mathlib.Core.List.{List}
use Prim.Native.Nat.{ℕ, ◌^◌}
use native.Mathlib.Decide.{ℕ_discrete}
use native.Mathlib.Omega.{arith}
use borrow.Author.Tests.{eq-eqb, ne_eqb, le-leb, lt-leb, ltb-true, ltb-false}
use lib.Dec.{eqb, leb, ltb}
use lib.ListN.{length}
use Rattle.paper.specs.First.{First, first}

-- numbers that the code computed, for those that the definition names
pub eqb_yes : {r s x y : ℕ} → r ≡ x → s ≡ y → r ≡ s → eqb x y ≡ true
eqb_yes p q e = eq-eqb _ _ (sym p ∙ e ∙ q)

pub eqb_no : {r s x y : ℕ} → r ≡ x → s ≡ y → (r ≡ s → ⊥) → eqb x y ≡ false
eqb_no p q h = ne_eqb _ _ (λ e. h (p ∙ e ∙ sym q))

-- equations that say the same are tested alike
pub eqb_same : (a b c d : ℕ) → (a ≡ b → c ≡ d) → (c ≡ d → a ≡ b) → eqb a b ≡ eqb c d
eqb_same a b c d f g = go (ℕ_discrete a b)
  where
    go : Dec (a ≡ b) → eqb a b ≡ eqb c d
    go (yes e) = eq-eqb a b e ∙ sym (eq-eqb c d (f e))
    go (no n) = ne_eqb a b n ∙ sym (ne_eqb c d (λ e. n (g e)))

-- a word that is not over n cells has a bit at cell n or above
pub stray-yes : (n x : ℕ) → ltb x (2 ^ n) ≡ false → leb (2 ^ n) x ≡ true
stray-yes n x e = le-leb (2 ^ n) x (omega (arith, ltb-false x (2 ^ n) e))

pub stray-no : (n x : ℕ) → ltb x (2 ^ n) ≡ true → leb (2 ^ n) x ≡ false
stray-no n x e = lt-leb (2 ^ n) x (omega (arith, ltb-true x (2 ^ n) e))

-- what is found in a part of the rows, the part having been named by its list and its length
pub found_in : (test : List ℕ → ℕ → Bool) {f : First} (part : List ℕ) {rows : List ℕ} {count : ℕ}
    → part ≡ rows → length rows ≡ count → f ≡ first (length part) (test part) → f ≡ first count (test rows)
found_in test part {rows} e h q = q ∙ ap (λ (xs : List ℕ). first (length xs) (test xs)) e ∙ ap (λ (m : ℕ). first m (test rows)) h
