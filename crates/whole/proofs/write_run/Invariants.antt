-- `write_run` meets its contract: page and notes are those after the writes of the slots below i, whatever they were after those below the run.
use mathlib.Core.Path.{◌≡◌}
use lib.ListN.{length}
use Rattle.whole.specs.Slots.{page_of, notes_of}
use Rattle.whole.proofs.Turns.{Goes}
use Rattle.whole.proofs.write_run.Given as goal

abbrev pub invariant-loop-i : goal.invariant-loop-i
invariant-loop-i l =
    (length l.page ≡ length l.initial.page) × (length l.notes ≡ length l.initial.notes)
    × Goes l.sheet l.gathered l.messages l.base page_of l.initial.page l.page l.i × Goes l.sheet l.gathered l.messages l.base notes_of l.initial.notes l.notes l.i
