-- `admit_whole` meets its contract: 1 to 6, 16 and 13, then 25.
use mathlib.Core.Path.{refl}
use mathlib.Core.Bool.{Bool, ◌&&◌}
use mathlib.Core.List.{[]}
use Prim.Native.Nat.{ℕ}
use borrow.Author.Tests.{eq-eqb, ne_eqb}
use lib.Dec.{eqb, leb}
use Rattle.std.proofs.lemmas.Result.{err_from_is_err_and}
use Rattle.paper.specs.Page.{most_slots, most_records}
use Rattle.paper.specs.Refusals.{answer}
use Rattle.rules.proofs.Rules.{unless-stop, unless-pass}
use Rattle.rules.proofs.Stages.{told-refused, told-next}
use Rattle.opening.proofs.Judging.{paged-stage, paged-tested}
use Rattle.whole.proofs.admit_whole.Goals as goal

-- slots and records are few enough
abbrev few : ℕ → ℕ → Bool
few slots count = leb slots most_slots && leb count most_records

-- one message and one note a slot, and 25 else
abbrev one_each : ℕ → ℕ → ℕ → Bool
one_each slots messages notes = eqb messages slots && eqb notes slots

pub returns-in_err-admitted-clause-told : goal.returns-in_err-admitted-clause-told
returns-in_err-admitted-clause-told c =
    let a = c.args in
    let p = err_from_is_err_and c.from_residual.result c.from_residual.ensures.1 in
    rw (p.1, p.2)
    (told-refused (paged-stage a.sheet.now a.number (few a.slots a.count)) (paged-tested a.sheet.now a.number c.are_few.ensures c.admit.ensures.told) _ c.in_err-admitted.was)

pub returns-then-messages-slots-clause-told : goal.returns-then-messages-slots-clause-told
returns-then-messages-slots-clause-told c =
    let a = c.args in
    told-next (paged-stage a.sheet.now a.number (few a.slots a.count)) (paged-tested a.sheet.now a.number c.are_few.ensures c.admit.ensures.told) c.in_ok-admitted.was _
    (unless-stop 25 (answer []) {test = one_each a.slots a.messages a.notes} (rw (ne_eqb a.messages a.slots c.if-messages-slots.true)))

pub returns-then-notes-slots-clause-told : goal.returns-then-notes-slots-clause-told
returns-then-notes-slots-clause-told c =
    let a = c.args in
    told-next (paged-stage a.sheet.now a.number (few a.slots a.count)) (paged-tested a.sheet.now a.number c.are_few.ensures c.admit.ensures.told) c.in_ok-admitted.was _
    (unless-stop 25 (answer []) {test = one_each a.slots a.messages a.notes}
    (rw (eq-eqb a.messages a.slots c.if-messages-slots.false, ne_eqb a.notes a.slots c.if-notes-slots.true)))

pub returns-clause-told : goal.returns-clause-told
returns-clause-told c =
    let a = c.args in
    told-next (paged-stage a.sheet.now a.number (few a.slots a.count)) (paged-tested a.sheet.now a.number c.are_few.ensures c.admit.ensures.told) c.in_ok-admitted.was _
    (unless-pass 25 (answer []) {test = one_each a.slots a.messages a.notes}
    (rw (eq-eqb a.messages a.slots c.if-messages-slots.false, eq-eqb a.notes a.slots c.if-notes-slots.false)) refl)
