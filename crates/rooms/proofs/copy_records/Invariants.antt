-- `copy_records` meets its contract: the first i records of the room are the first i of the line.
-- Slot and cell are numbers of 32 bits and a level one of 8, which the shape of the verb has.
use mathlib.Core.Path.{◌≡◌}
use lib.ListN.{length, take}
use Rattle.rooms.specs.Lent.{room_records, records_from}
use Rattle.rooms.proofs.copy_records.Given as goal

abbrev pub invariant-loop-i : goal.invariant-loop-i
invariant-loop-i l = record {
  wide : length l.records ≡ room_records;
  copied : take l.i l.records ≡ records_from l.i l.from l.ns;
}
