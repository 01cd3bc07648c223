-- `find_stray` meets its contract: no row before i has a bit at cell n or above.
use mathlib.Core.Path.{◌≡◌}
use Prim.Native.Nat.{◌^◌}
use lib.Dec.{leb}
use lib.ListN.{get_or}
use Rattle.paper.specs.First.{nowhere, first}
use Rattle.sheet.proofs.find_stray.Given as goal

abbrev pub invariant-loop-i : goal.invariant-loop-i
invariant-loop-i l = first l.i (λ j. leb (2 ^ l.n) (get_or l.rows j 0)) ≡ nowhere
