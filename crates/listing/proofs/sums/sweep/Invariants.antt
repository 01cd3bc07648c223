-- `sweep` meets its contract: what is left of the list, from the weight v on, gives the answer of the whole list.
use mathlib.Core.Path.{◌≡◌}
use Prim.Native.Nat.{◌+◌, ◌-◌, ◌^◌, ◌<◌}
use lib.ListN.{length}
use Rattle.paper.specs.Words.{width}
use Rattle.paper.specs.Listing.{search, weights}
use Rattle.listing.specs.Sums.{test}
use Rattle.listing.proofs.sums.sweep.Given as goal

abbrev pub invariant-loop-v : goal.invariant-loop-v
invariant-loop-v l = record {
  room : l.tried + length (weights l.n l.v (l.end - l.v)) < 2 ^ width;
  left : search (test l.asked l.sum) l.start (weights l.n l.from (l.end - l.from)) ≡ search (test l.asked l.sum) l.tried (weights l.n l.v (l.end - l.v));
}
