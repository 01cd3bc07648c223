-- `admit` meets its contract: a refusal of the sheet is passed on, and an admitted sheet passes to 16 and then to 13.
use mathlib.Core.Path.{◌≡◌, refl, sym, ◌∙◌}
use mathlib.Core.Bool.{Bool}
use mathlib.Core.List.{[]}
use Prim.Native.Nat.{ℕ}
use Rattle.std.specs.Prelude.{Result, Ok}
use Rattle.std.proofs.lemmas.Result.{err_from_is_err_and}
use Rattle.paper.specs.Page.{numbered, paged}
use Rattle.paper.specs.Refusals.{Told, answer, unless, verdict}
use Rattle.paper.specs.Sheet.{Sheet, admits}
use Rattle.paper.specs.declared.Refusal.{Refusal}
use Rattle.rules.proofs.Rules.{unless-stop, unless-pass}
use Rattle.sheet.proofs.Calls.{call-refused, call-answer}
use Rattle.opening.proofs.admit.Goals as goal

-- what is told from 16 on is told of an admitted sheet
past-sheet : (s : Sheet) (number : ℕ) (few : Bool) {T : Type 0} {judgment : Result T Refusal} {passed : T} → verdict judgment ≡ admits s → judgment ≡ Ok passed
    → {told : Told} → told ≡ unless (numbered number) 16 (unless few 13 (answer [])) → told ≡ paged s number few (answer [])
unfolding paged
past-sheet s number few e h = call-answer s e h (unless (numbered number) 16 (unless few 13 (answer [])))

pub returns-in_err-admitted-clause-told : goal.returns-in_err-admitted-clause-told
unfolding paged
returns-in_err-admitted-clause-told c =
    let p = err_from_is_err_and c.from_residual.result c.from_residual.ensures.1 in
    rw (p.1, p.2) (call-refused c.args.sheet.now c.admit.ensures.told _ c.in_err-admitted.was)

pub returns-then-not-is_number-clause-told : goal.returns-then-not-is_number-clause-told
returns-then-not-is_number-clause-told c =
    past-sheet c.args.sheet.now c.args.number c.args.few c.admit.ensures.told c.in_ok-admitted.was
    (unless-stop 16 _ (sym c.is_number.ensures ∙ c.if-not-is_number.true))

pub returns-then-not-few-clause-told : goal.returns-then-not-few-clause-told
returns-then-not-few-clause-told c =
    past-sheet c.args.sheet.now c.args.number c.args.few c.admit.ensures.told c.in_ok-admitted.was
    (unless-pass 16 _ (sym c.is_number.ensures ∙ c.if-not-is_number.false) (unless-stop 13 (answer []) c.if-not-few.true))

pub returns-clause-told : goal.returns-clause-told
returns-clause-told c =
    past-sheet c.args.sheet.now c.args.number c.args.few c.admit.ensures.told c.in_ok-admitted.was
    (unless-pass 16 _ (sym c.is_number.ensures ∙ c.if-not-is_number.false) (unless-pass 13 (answer []) c.if-not-few.false refl))
