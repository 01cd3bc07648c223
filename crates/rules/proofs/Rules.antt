-- A call's rules, one after the other: which of them were passed and which is broken, from what is told. No order of numbers is asked for,
-- only that what is told is not told by the rule itself. For the verdict on a sheet, the order of refusals, and the code that follows it. Assumes nothing.
use mathlib.Core.Path.{◌≡◌, refl, sym, ap, ◌∙◌}
use mathlib.Core.Bool.{Bool, true, false, true≢false}
use mathlib.Core.Logic.{◌⊎◌, inl, inr, ◌↔◌}
use mathlib.Core.List.{List, [], ◌∷◌}
use Prim.Native.Nat.{ℕ, ◌+◌, ◌≤◌}
use native.Mathlib.Nat.{zero-add}
use native.Mathlib.Omega.{arith}
use borrow.Author.Tests.{eq-eqb, ne_eqb, leb-false}
use lib.Dec.{eqb, leb}
use Rattle.paper.specs.First.{First, nowhere, at}
use Rattle.paper.specs.Refusals.{Told, answer, more, refusal, unless, unless_at}
use Rattle.words.specs.Places.{as_first}
use Rattle.std.proofs.Common.{Option, Some, None}
use Rattle.words.proofs.Firsts.{at-nowhere}

-- ---- what is told

-- whether what is told is refusal m
abbrev pub is_refusal : ℕ → Told → Bool
is_refusal m (answer values) = false
is_refusal m (more values) = false
is_refusal m (refusal number given) = eqb number m

-- whether it is a refusal of the sheet: 1 to 6, which no other rule has
abbrev pub of_sheet : Told → Bool
of_sheet (answer values) = false
of_sheet (more values) = false
of_sheet (refusal number given) = leb number 6

-- what is no refusal of the sheet tells none of its numbers
pub not-of-sheet : (number : ℕ) (t : Told) → number ≤ 6 → of_sheet t ≡ false → is_refusal number t ≡ false
not-of-sheet number (answer values) l h = refl
not-of-sheet number (more values) l h = refl
not-of-sheet number (refusal i given) l h = ne_eqb i number (λ e. omega (arith, leb-false i 6 h))

-- refusal m is told by none that tells another
pub not-told : {A : Type 0} {m : ℕ} {given : List ℕ} {t : Told} → refusal m given ≡ t → is_refusal m t ≡ false → A
not-told {m = m} e h = absurd (true≢false (sym (eq-eqb m m refl) ∙ ap (is_refusal m) e ∙ h))

-- ---- one rule and what comes next

module _ (number : ℕ) (next : Told) where
  -- what holds of the rule's refusal and of what comes next holds of both together
  pub either : (P : Told → Type 0) (test : Bool) → P (refusal number []) → P next → P (unless test number next)
  either P true r n = n
  either P false r n = r

  pub either-at : (P : Told → Type 0) (place : First) (base : ℕ) → ((given : List ℕ) → P (refusal number given)) → P next → P (unless_at place number base next)
  either-at P nowhere base r n = n
  either-at P (at i) base r n = r ((base + i) ∷ [])

  -- what another rule is_refusal, or an answer: the rule was passed
  pub past : {A : Type 0} (test : Bool) → ((test ≡ true) ↔ A) → (t : Told) → is_refusal number t ≡ false → (unless test number next ≡ t) ↔ (A × (next ≡ t))
  past true i t h = (λ e. (i.0 refl, e), λ p. p.1)
  past false i t h = (λ e. not-told e h, λ p. absurd (true≢false (sym (i.1 p.0))))

  pub past-at : (place : First) (base : ℕ) (t : Told) → is_refusal number t ≡ false
      → (unless_at place number base next ≡ t) ↔ ((place ≡ nowhere) × (next ≡ t))
  past-at nowhere base t h = (λ e. (refl, e), λ p. p.1)
  past-at (at i) base t h = (λ e. not-told e h, λ p. at-nowhere refl p.0)

  -- what the rule is_refusal, where none after it tells the same: the rule is broken
  pub own : {A : Type 0} (test : Bool) → ((test ≡ false) ↔ A) → is_refusal number next ≡ false → (unless test number next ≡ refusal number []) ↔ A
  own true i h = (λ e. not-told (sym e) h, λ p. absurd (true≢false (i.1 p)))
  own false i h = (λ e. i.0 refl, λ p. refl)

  pub own_at : (place : First) (base i c : ℕ) → base + i ≡ c → is_refusal number next ≡ false
      → (unless_at place number base next ≡ refusal number (c ∷ [])) ↔ (place ≡ at i)
  own_at nowhere base i c q h = (λ e. not-told (sym e) h, λ p. at-nowhere p refl)
  own_at (at j) base i c q h = (
    λ e. let p : base + j ≡ c = cc in ap at (omega arith),
    λ e. let p : j ≡ i = cc in ap (λ (x : ℕ). refusal number (x ∷ [])) (omega arith),
  )

  -- where one after it may tell the same: this rule is broken, or it is passed and a later one is
  pub own-or : (test : Bool) → (unless test number next ≡ refusal number []) ↔ ((test ≡ false) ⊎ ((test ≡ true) × (next ≡ refusal number [])))
  own-or true = (λ e. inr (refl, e), λ p. elim p [ inl e ↦ absurd (true≢false e) | inr q ↦ q.1 ])
  own-or false = (λ e. inl refl, λ p. refl)

  pub own-at-or : (place : First) (base c : ℕ) → (unless_at place number base next ≡ refusal number (c ∷ []))
      ↔ (((i : ℕ) × (place ≡ at i) × (base + i ≡ c)) ⊎ ((place ≡ nowhere) × (next ≡ refusal number (c ∷ []))))
  own-at-or nowhere base c = (λ e. inr (refl, e), λ p. elim p [ inl q ↦ at-nowhere q.1 refl | inr q ↦ q.1 ])
  own-at-or (at j) base c = (
    λ e. inl (j, refl, cc),
    λ p. elim p [ inl q ↦ (let z : j ≡ q.0 = cc q.1 in ap (λ (x : ℕ). refusal number (x ∷ [])) (omega (arith, q.2))) | inr q ↦ at-nowhere refl q.0 ],
  )

  -- ---- how the code follows the order: a rule that is broken refuses, and one that is kept leaves it to the next

  -- a rule that is told by a test
  pub unless-stop : {test : Bool} → test ≡ false → refusal number [] ≡ unless test number next
  unless-stop e = ap (λ (b : Bool). unless b number next) (sym e)

  pub unless-pass : {test : Bool} {told : Told} → test ≡ true → told ≡ next → told ≡ unless test number next
  unless-pass e q = q ∙ ap (λ (b : Bool). unless b number next) (sym e)

  -- a rule that is broken at a place: p is what the code found, and f what the definition finds
  module _ {p : Option ℕ} {f : First} (e : as_first p ≡ f) where
    pub stop : (base : ℕ) {i : ℕ} → p ≡ Some i → refusal number ((base + i) ∷ []) ≡ unless_at f number base next
    stop base h = ap (λ (x : First). unless_at x number base next) (sym (ap as_first h) ∙ e)

    pub stop-first : {i : ℕ} → p ≡ Some i → refusal number (i ∷ []) ≡ unless_at f number 0 next
    stop-first {i} h = ap (λ (x : ℕ). refusal number (x ∷ [])) (sym (zero-add i)) ∙ stop 0 h

    pub pass : (base : ℕ) {told : Told} → p ≡ None → told ≡ next → told ≡ unless_at f number base next
    pass base h q = q ∙ ap (λ (x : First). unless_at x number base next) (sym (ap as_first h) ∙ e)
