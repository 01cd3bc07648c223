-- What every call does first: a refusal of the sheet is the call's answer, and an admitted sheet passes to what comes next.
-- For the proofs of the calls. Assumes nothing.
use mathlib.Core.Path.{◌≡◌}
use Rattle.std.specs.Prelude.{Result, Ok, Err}
use Rattle.paper.specs.Refusals.{Told, refused, verdict}
use Rattle.paper.specs.Sheet.{Sheet, judged, admits}
use Rattle.paper.specs.declared.Refusal.{Refusal}
use Rattle.rules.proofs.Stages.{told-refused, told-next}
use Rattle.sheet.proofs.Verdicts.{judged-stage}

-- judgment is what the code was told of the sheet
module _ (s : Sheet) {T : Type 0} {judgment : Result T Refusal} (e : verdict judgment ≡ admits s) where
  pub call-refused : {why : Refusal} (next : Told) → judgment ≡ Err why → refused why ≡ judged s next
  call-refused = told-refused (judged-stage s) e

  pub call-answer : {passed : T} → judgment ≡ Ok passed → (next : Told) {told : Told} → told ≡ next → told ≡ judged s next
  call-answer = told-next (judged-stage s) e
