-- `copy_records` meets its contract: the first i records of the room are the first i of the line.
-- Slot and cell are numbers of 32 bits and a level one of 8, which the shape of the verb has.
use native.Mathlib.Omega.{arith}
use mathlib.Core.Path.{refl}
use lib.ListN.{length-set}
use Rattle.rooms.proofs.Lists.{records-none, record-stored}
use Rattle.rooms.proofs.copy_records.Goals as goal

pub loop-i-init : goal.loop-i-init
loop-i-init c = record { wide = refl; copied = records-none _ _ }

pub loop-i-preserved : goal.loop-i-preserved
loop-i-preserved c =
    let l = c.loop-i in
    let a = c.args in
    record {
      wide = rw length-set l.invariant.wide;
      copied = record-stored l.records a.from l.i a.ns.now (omega (arith, l.invariant.wide)) l.invariant.copied;
    }
