-- `tables` meets its contract: the rooms, the sheet, and then the tables.
use mathlib.Core.Path.{◌≡◌, refl, sym, ap, ap₂, ◌∙◌}
use mathlib.Core.Bool.{Bool}
use Prim.Native.Nat.{ℕ}
use Rattle.paper.specs.Refusals.{Told, leaves}
use Rattle.paper.specs.Sheet.{Sheet, judged}
use Rattle.paper.specs.Tables.{table_p, table_r, table_q, tabled, gives_admitted, gives}
use Rattle.rules.proofs.Rooms.{room-left}
use Rattle.rules.proofs.Rules.{unless-stop, unless-pass}
use Rattle.sheet.proofs.Calls.{call-refused, call-answer}
use Rattle.tables.proofs.tables.Goals as goal

-- the code's test of the rooms, by the fields of the sheet that was lent, is the definition's
tested : {i s : Sheet} {b : Bool} (p r q : ℕ) → i ≡ s → b ≡ tabled i.k i.l p r q → b ≡ tabled s.k s.l p r q
tested p r q v e = e ∙ ap (λ (s : Sheet). tabled s.k s.l p r q) v

pub returns-then-not-is_tabled : goal.returns-then-not-is_tabled
unfolding gives
returns-then-not-is_tabled c =
    let e = unless-stop 1 _ (sym (tested _ _ _ c.sheet.view_is c.is_tabled.ensures) ∙ c.if-not-is_tabled.true) in
    record { result_value = e; p_after = room-left _ _ e; r_after = room-left _ _ e; q_after = room-left _ _ e }

pub returns-in-Err : goal.returns-in-Err
unfolding gives
returns-in-Err c =
    let s = c.args.sheet.now in
    let e = unless-pass 1 (judged s (gives_admitted s)) (sym (tested _ _ _ c.sheet.view_is c.is_tabled.ensures) ∙ c.if-not-is_tabled.false)
    (call-refused s c.admit.ensures.told (gives_admitted s) c.in-Err.is) in
    record { result_value = e; p_after = room-left _ _ e; r_after = room-left _ _ e; q_after = room-left _ _ e }

pub returns-in-Ok : goal.returns-in-Ok
unfolding gives
returns-in-Ok c =
    let s = c.args.sheet.now in
    let same = c.in-Ok.ensures.same in
    let b = c.give.ensures in
    let e = ap gives_admitted same
    ∙ unless-pass 1 (judged s (gives_admitted s)) (sym (tested _ _ _ c.sheet.view_is c.is_tabled.ensures) ∙ c.if-not-is_tabled.false)
    (call-answer s c.admit.ensures.told c.in-Ok.is (gives_admitted s) refl) in
    record {
      result_value = b.result_value ∙ e;
      p_after = b.p_after ∙ ap₂ (λ (told : Told) (t : Sheet). leaves told (table_p t) c.args.p.now) e same;
      r_after = b.r_after ∙ ap₂ (λ (told : Told) (t : Sheet). leaves told (table_r t) c.args.r.now) e same;
      q_after = b.q_after ∙ ap₂ (λ (told : Told) (t : Sheet). leaves told (table_q t) c.args.q.now) e same;
    }
