-- A chain of rules as one: it refuses whatever comes next, or passes to it. So a refusal by rules that several calls share is told alike by each.
-- For the rules that calls begin with: the sheet's six, a page's, a read's. Assumes nothing.
use mathlib.Core.Path.{◌≡◌, refl, sym, ap, ◌∙◌}
use mathlib.Core.Bool.{Bool, true, false}
use mathlib.Core.List.{List, [], ◌∷◌}
use Prim.Native.Nat.{ℕ, ◌+◌}
use native.Mathlib.Omega.{arith}
use Rattle.paper.specs.First.{First, nowhere, at}
use Rattle.paper.specs.Refusals.{Told, answer, refusal, refused, verdict, unless, unless_at}
use Rattle.std.specs.Prelude.{Result, Ok, Err}
use Rattle.paper.specs.declared.Refusal.{Refusal}

-- rules that refuse whatever comes next, or pass to it
pub data Stage (f : Told → Told) : Type 0 where
  passes : ((next : Told) → f next ≡ next) → Stage f
  refuses : (number : ℕ) (given : List ℕ) → ((next : Told) → f next ≡ refusal number given) → Stage f

pub unless-stage : (test : Bool) (number : ℕ) → Stage (unless test number)
unless-stage true number = passes (λ next. refl)
unless-stage false number = refuses number [] (λ next. refl)

pub unless_at-stage : (place : First) (number base : ℕ) → Stage (unless_at place number base)
unless_at-stage nowhere number base = passes (λ next. refl)
unless_at-stage (at i) number base = refuses number ((base + i) ∷ []) (λ next. refl)

-- two chains, one after the other
pub then : {f g : Told → Told} → Stage f → Stage g → Stage (λ next. f (g next))
then {f} {g} (passes p) (passes q) = passes (λ next. p (g next) ∙ q next)
then {f} {g} (passes p) (refuses number given q) = refuses number given (λ next. p (g next) ∙ q next)
then {f} {g} (refuses number given p) q = refuses number given (λ next. p (g next))

-- what is refused where an answer comes next is refused whatever comes next
pub refused-alike : {f : Told → Told} → Stage f → {number : ℕ} {given : List ℕ} → f (answer []) ≡ refusal number given
    → (next : Told) → f next ≡ refusal number given
refused-alike (passes p) e next = let q = p (answer []) in let z : ◌≡◌ {A = ℕ} 0 1 = cc in absurd (omega arith)
refused-alike (refuses m g p) e next = p next ∙ sym (p (answer [])) ∙ e

-- and what passes to an answer passes to whatever comes next
pub passed-alike : {f : Told → Told} → Stage f → f (answer []) ≡ answer [] → (next : Told) → f next ≡ next
passed-alike (passes p) e next = p next
passed-alike (refuses m g p) e next = let q = p (answer []) in let z : ◌≡◌ {A = ℕ} 0 1 = cc in absurd (omega arith)

-- and what is refused, but not by what comes next, is refused where an answer comes next
pub alike-refused : {f : Told → Told} → Stage f → {number : ℕ} {given : List ℕ} (next : Told) → (next ≡ refusal number given → ⊥)
    → f next ≡ refusal number given → f (answer []) ≡ refusal number given
alike-refused (passes p) next other e = absurd (other (sym (p next) ∙ e))
alike-refused (refuses m g p) next other e = p (answer []) ∙ sym (p next) ∙ e

-- judgment is what the code was told of a chain: a refusal is the call's answer, and else the call tells what comes next
module _ {f : Told → Told} (stage : Stage f) {T : Type 0} {judgment : Result T Refusal} (e : verdict judgment ≡ f (answer [])) where
  pub told-refused : {why : Refusal} (next : Told) → judgment ≡ Err why → refused why ≡ f next
  told-refused next h = sym (refused-alike stage (sym (ap verdict (sym h) ∙ e)) next)

  pub told-next : {passed : T} → judgment ≡ Ok passed → (next : Told) {told : Told} → told ≡ next → told ≡ f next
  told-next h next q = q ∙ sym (passed-alike stage (sym e ∙ ap verdict h) next)
