-- `find` meets its contract: from wherever the loop stands, what is found is the same.
-- It is how a verb is found in the table.
use mathlib.Core.Path.{◌≡◌}
use Prim.Native.Nat.{◌+◌, ◌≤◌}
use lib.ListN.{length}
use Rattle.text.specs.Tokens.{cut}
use Rattle.lines.specs.Lines.{lookup}
use Rattle.lines.proofs.call.find.Given as goal

abbrev pub invariant-loop-shape : goal.invariant-loop-shape
invariant-loop-shape l = record {
  few : l.v + length l.rest ≤ length l.table;
  same : lookup l.name 0 (cut 32 l.table) ≡ lookup l.name l.v (cut 32 l.rest);
}

abbrev pub decreases-loop-shape : goal.decreases-loop-shape
decreases-loop-shape l = length l.rest
