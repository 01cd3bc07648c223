-- What every call on a page does first: a refusal of sheet or page is the call's answer, and else the sheet is sound and what comes next is told.
-- For the proofs of the calls on a page. Assumes nothing.
use mathlib.Core.Path.{◌≡◌, refl, ap, ◌∙◌}
use mathlib.Core.Bool.{Bool}
use mathlib.Core.List.{[]}
use Prim.Native.Nat.{ℕ}
use Rattle.paper.specs.Page.{numbered, paged}
use Rattle.paper.specs.Refusals.{Told, answer, unless}
use Rattle.paper.specs.Sheet.{Sheet, judged}
use Rattle.rules.proofs.Stages.{Stage, unless-stage, then}
use Rattle.sheet.specs.Sound.{Sound}
use Rattle.sheet.proofs.Verdicts.{judged-stage, past-judged, on-admitted, sound}

-- the rules of sheet and page as one chain
pub paged-stage : (s : Sheet) (number : ℕ) (few : Bool) → Stage (paged s number few)
unfolding paged
paged-stage s number few = then (judged-stage s) (then (unless-stage (numbered number) 16) (unless-stage few 13))

-- what was told by the code's test of slots and records is told by the definition's
pub paged-tested : (s : Sheet) (number : ℕ) {few tested : Bool} {told : Told} → few ≡ tested → told ≡ paged s number few (answer [])
    → told ≡ paged s number tested (answer [])
paged-tested s number e q = q ∙ ap (λ (b : Bool). paged s number b (answer [])) e

-- what passes them has a sound sheet
pub page-sound : (s : Sheet) (number : ℕ) (few : Bool) → paged s number few (answer []) ≡ answer [] → Sound s
unfolding paged
page-sound s number few e =
    sound s ((past-judged s (unless (numbered number) 16 (unless few 13 (answer []))) (answer []) refl).0 e).0

-- what is told alike of a sound sheet is told alike behind the rules of sheet and page, which refuse any other
pub alike-when-sound : (s : Sheet) (number : ℕ) (few : Bool) (a b : Told) → (Sound s → a ≡ b) → paged s number few a ≡ paged s number few b
unfolding paged
alike-when-sound s number few a b h =
    on-admitted s _ _ (λ ok. ap (λ (t : Told). judged s (unless (numbered number) 16 (unless few 13 t))) (h (sound s ok)))
