-- `measure_d0` meets its contract: rule 11, then the distance or "more than the cap".
use mathlib.Core.Path.{sym, ap, ◌∙◌}
use mathlib.Core.List.{[], ◌∷◌}
use Prim.Native.Nat.{ℕ}
use Rattle.paper.specs.Plate.{plate_d0, measures_admitted_d0}
use Rattle.paper.specs.Refusals.{answer}
use Rattle.listing.proofs.Tests.{searched-found, searched-missed}
use Rattle.rules.proofs.Rules.{unless-stop, unless-pass}
use Rattle.measuring.proofs.measure_d0.Goals as goal

pub returns-then-not-is_cap : goal.returns-then-not-is_cap
unfolding measures_admitted_d0
returns-then-not-is_cap c = unless-stop 11 _ (sym c.is_cap.ensures ∙ c.if-not-is_cap.true)

pub returns-in-Some : goal.returns-in-Some
unfolding measures_admitted_d0
returns-in-Some c =
    let tried = c.find_masked-z.result.tried in
    unless-pass 11 _ (sym c.is_cap.ensures ∙ c.if-not-is_cap.false)
    (ap (λ (v : ℕ). answer (v ∷ tried ∷ [])) c.weight_of.ensures
    ∙ ap plate_d0 (sym (searched-found c.find_masked-z.result c.in-Some.is) ∙ c.find_masked-z.ensures))

pub returns-in-None : goal.returns-in-None
unfolding measures_admitted_d0
returns-in-None c =
    unless-pass 11 _ (sym c.is_cap.ensures ∙ c.if-not-is_cap.false)
    (ap plate_d0 (sym (searched-missed c.find_masked-z.result c.in-None.is) ∙ c.find_masked-z.ensures))
