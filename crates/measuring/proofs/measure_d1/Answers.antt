-- `measure_d1` meets its contract: rule 11, then the distance or "more than the cap".
use mathlib.Core.Path.{sym, ap, ◌∙◌}
use mathlib.Core.List.{[], ◌∷◌}
use Prim.Native.Nat.{ℕ}
use native.Mathlib.Omega.{arith}
use native.Mathlib.Omega.{arith}
use Rattle.paper.specs.Plate.{printed, plate_d1, measures_admitted_d1}
use Rattle.paper.specs.Refusals.{answer}
use Rattle.listing.proofs.Tests.{searched-found, searched-missed}
use Rattle.rules.proofs.Rules.{unless-stop, unless-pass}
use Rattle.measuring.proofs.Searching.{hidden-some}
use Rattle.measuring.proofs.measure_d1.Goals as goal

pub returns-then-not-is_cap : goal.returns-then-not-is_cap
unfolding measures_admitted_d1
returns-then-not-is_cap c = unless-stop 11 _ (sym c.is_cap.ensures ∙ c.if-not-is_cap.true)

pub returns-in-Some : goal.returns-in-Some
unfolding measures_admitted_d1
returns-in-Some c =
    let tried = c.find_hidden-z.result.tried in
    unless-pass 11 _ (sym c.is_cap.ensures ∙ c.if-not-is_cap.false)
    (ap (λ (v : ℕ). answer (v ∷ tried ∷ printed v ∷ [])) c.weight_of-d.ensures
    ∙ ap (plate_d1 _) (sym (searched-found c.find_hidden-z.result c.in-Some.is) ∙ c.find_hidden-z.ensures))

pub returns-in-None : goal.returns-in-None
unfolding measures_admitted_d1
returns-in-None c =
    unless-pass 11 _ (sym c.is_cap.ensures ∙ c.if-not-is_cap.false)
    (ap (plate_d1 _) (sym (searched-missed c.find_hidden-z.result c.in-None.is) ∙ c.find_hidden-z.ensures))

-- d1 is at least 1, so d - 1 does not go below 0
pub overflow_sub-result : goal.overflow_sub-result
overflow_sub-result c =
    omega (arith, c.weight_of-d.ensures, hidden-some _ _ (sym (searched-found c.find_hidden-z.result c.in-Some.is) ∙ c.find_hidden-z.ensures))
