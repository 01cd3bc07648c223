-- `write_run` meets its contract: page and notes are those after the writes of the slots below i, whatever they were after those below the run.
use mathlib.Core.Path.{ap, ◌∙◌}
use Prim.Native.Nat.{◌+◌, ◌<◌}
use native.Mathlib.Omega.{arith}
use lib.ListN.{length, length-set}
use Rattle.records.specs.Runs.{run}
use Rattle.rules.proofs.Rooms.{length-kept}
use Rattle.whole.proofs.Turns.{run_told, page-turn, notes-turn}
use Rattle.whole.proofs.write_run.Goals as goal

pub loop-i-preserved : goal.loop-i-preserved
loop-i-preserved c =
    let l = c.loop-i in
    let g = c.gather_run-gathered in
    let a = c.args in
    let s = a.sheet.now in
    let within : l.i < a.base + run = omega arith in (
      ap length c.put.ensures.page_after ∙ length-kept l.page l.i (run_told s g.result a.messages.now a.base l.i) ∙ l.invariant.0,
      length-set l.notes l.i _ ∙ l.invariant.1,
      rw c.put.ensures.page_after (page-turn s g.result a.messages.now a.base a.page.now l.page l.i (omega arith) within l.invariant.2),
      rw (c.note_of.ensures, c.put.ensures.result_value) (notes-turn s g.result a.messages.now a.base a.notes.now l.notes l.i (omega arith) within l.invariant.3),
    )
