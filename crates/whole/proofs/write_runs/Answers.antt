-- `write_runs` meets its contract: page and notes are those after the writes of the slots before the next run.
use mathlib.Core.Path.{◌≡◌, refl}
use Prim.Native.Nat.{min}
use native.Mathlib.Omega.{arith}
use lib.ListN.{length}
use Rattle.whole.specs.Slots.{page_of, notes_of}
use Rattle.whole.proofs.write_runs.Goals as goal

pub loop-base-init : goal.loop-base-init
unfolding page_of notes_of
loop-base-init c = let z : min (length c.args.page.now) 0 ≡ 0 = omega arith in (refl, refl, rw z, rw z)
