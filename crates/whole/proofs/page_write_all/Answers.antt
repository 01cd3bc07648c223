-- `page_write_all` meets its contract: what stops it is told and nothing is changed, and else page and notes are those of the single writes.
use mathlib.Core.Path.{◌≡◌, sym, ap, ◌∙◌}
use mathlib.Core.Bool.{◌&&◌, and-eq-true_iff}
use mathlib.Core.List.{List, []}
use Prim.Native.Nat.{ℕ}
use borrow.Author.Tests.{eqb-true}
use native.Mathlib.Nat.{le_refl}
use lib.Dec.{eqb}
use lib.ListN.{length}
use Rattle.std.specs.Prelude.{Result, Ok}
use Rattle.paper.specs.Page.{most_slots, most_records, few_slots, few_records, paged}
use Rattle.paper.specs.WholePage.{one_each_slot, whole_writes}
use Rattle.paper.specs.Refusals.{answer, verdict, unless}
use Rattle.paper.specs.Sheet.{Sheet}
use Rattle.paper.specs.declared.Refusal.{Refusal}
use Rattle.paper.specs.declared.StuckCell.{StuckCell}
use Rattle.rules.proofs.Both.{both}
use Rattle.rules.proofs.Rooms.{room-left, room-filled}
use Rattle.whole.specs.Slots.{slot_told, page_of, notes_of}
use Rattle.whole.proofs.Singly.{page-singly, notes-singly}
use Rattle.whole.proofs.Stops.{Unstopped, unstopped}
use Rattle.whole.proofs.page_write_all.Goals as goal

module _ (s : Sheet) (number : ℕ) (page : List ℕ) (records : List StuckCell) (messages notes : List ℕ) {T : Type 0} (judgment : Result T Refusal)
    (e : verdict judgment ≡ paged s number (few_slots page && few_records records) (unless (one_each_slot page messages notes) 25 (answer []))) where
  -- what was told of sheet, page and lengths is what the definition tells
  told : verdict judgment ≡ whole_writes s number page records messages notes
  unfolding whole_writes
  told = e

  -- nothing stops it
  goes_on : {passed : T} → judgment ≡ Ok passed → Unstopped s number (few_slots page && few_records records) (one_each_slot page messages notes)
  goes_on h = unstopped s number (few_slots page && few_records records) (one_each_slot page messages notes) (ap verdict (sym h) ∙ e)

pub returns-in-Err : goal.returns-in-Err
returns-in-Err c =
    let a = c.args in
    let e = ap verdict (sym c.in-Err.is) ∙ told a.sheet.now a.number a.page.now a.records.now a.messages.now a.notes.now _ c.admit_whole.ensures.told in
    record { result_value = e; page_after = room-left _ a.page.now e; notes_after = room-left _ a.notes.now e }

pub write_runs-requires : goal.write_runs-requires
write_runs-requires c =
    let a = c.args in
    let u = goes_on a.sheet.now a.number a.page.now a.records.now a.messages.now a.notes.now _ c.admit_whole.ensures.told c.in-Ok.is in
    let each = (and-eq-true_iff (eqb (length a.messages.now) (length a.page.now)) (eqb (length a.notes.now) (length a.page.now))).0 u.is-each in
    record {
      few = ((both (length a.page.now) most_slots (length a.records.now) most_records).0 u.is-few).0;
      all-messages = eqb-true (length a.messages.now) (length a.page.now) each.0;
      all-notes = eqb-true (length a.notes.now) (length a.page.now) each.1;
    }

pub returns-in-Ok : goal.returns-in-Ok
returns-in-Ok c =
    let a = c.args in
    let s = a.sheet.now in
    let page = a.page.now in
    let records = a.records.now in
    let messages = a.messages.now in
    let u = goes_on s a.number page records messages a.notes.now _ c.admit_whole.ensures.told c.in-Ok.is in
    let e = ap verdict (sym c.in-Ok.is) ∙ told s a.number page records messages a.notes.now _ c.admit_whole.ensures.told in
    let r = c.write_runs.ensures in
    record {
      result_value = e;
      page_after =
          r.page ∙ ap (λ (t : Sheet). page_of (slot_told t records messages) page (length page)) c.in-Ok.ensures.same
          ∙ page-singly s a.number page records messages u.sound u.passed (length page) (le_refl _) ∙ room-filled _ page e;
      notes_after =
          r.notes ∙ ap (λ (t : Sheet). notes_of (slot_told t records messages) a.notes.now (length page)) c.in-Ok.ensures.same
          ∙ notes-singly s a.number page records messages u.sound u.passed a.notes.now (length page) (le_refl _) ∙ room-filled _ a.notes.now e;
    }
