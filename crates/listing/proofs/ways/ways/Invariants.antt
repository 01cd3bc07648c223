-- `ways` meets its contract: the number of the words of weight i gives that of the next weight.
use mathlib.Core.Path.{◌≡◌}
use lib.ListN.{length}
use Rattle.paper.specs.Listing.{listed}
use Rattle.listing.proofs.ways.ways.Given as goal

abbrev pub invariant-loop-i : goal.invariant-loop-i
invariant-loop-i l = l.count ≡ length (listed l.n l.i)
