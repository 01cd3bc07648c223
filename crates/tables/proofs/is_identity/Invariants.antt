-- `is_identity` meets its contract: each row before i has its cell alone.
use mathlib.Core.Path.{◌≡◌}
use Prim.Native.Nat.{ℕ, ◌^◌, ◌<◌}
use lib.ListN.{get_or}
use Rattle.paper.specs.Tables.{cells}
use Rattle.tables.proofs.is_identity.Given as goal

abbrev pub invariant-loop-i : goal.invariant-loop-i
invariant-loop-i l = (j : ℕ) → j < l.i → cells l.from l.count (get_or l.rows j 0) ≡ 2 ^ j
