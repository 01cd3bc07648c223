-- `write_runs` meets its contract: page and notes are those after the writes of the slots before the next run.
use mathlib.Core.Path.{◌≡◌}
use Prim.Native.Nat.{◌-◌, min}
use lib.ListN.{length}
use Rattle.whole.specs.Slots.{slot_told, page_of, notes_of}
use Rattle.whole.proofs.write_runs.Given as goal

abbrev pub invariant-loop-base : goal.invariant-loop-base
invariant-loop-base l =
    (length l.page ≡ length l.initial.page) × (length l.notes ≡ length l.initial.notes)
    × (l.page ≡ page_of (slot_told l.sheet l.records l.messages) l.initial.page (min (length l.initial.page) l.base))
    × (l.notes ≡ notes_of (slot_told l.sheet l.records l.messages) l.initial.notes (min (length l.initial.page) l.base))

abbrev pub decreases-loop-base : goal.decreases-loop-base
decreases-loop-base l = length l.initial.page - l.base
