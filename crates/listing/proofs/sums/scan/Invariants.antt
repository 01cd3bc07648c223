-- `scan` meets its contract: no cell below i has a column that meets the sum.
use mathlib.Core.Path.{◌≡◌}
use Rattle.std.proofs.Common.{None}
use Rattle.paper.specs.Listing.{listed}
use Rattle.listing.specs.Sums.{find, test}
use Rattle.listing.proofs.sums.scan.Given as goal

abbrev pub invariant-loop-i : goal.invariant-loop-i
invariant-loop-i l = find (test l.asked l.sum) (listed l.i 1) ≡ None
