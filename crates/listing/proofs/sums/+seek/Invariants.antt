-- `seek` meets its contract, by its own at fewer cells: no word over the lower c cells fits.
use mathlib.Core.Path.{◌≡◌}
use Rattle.std.proofs.Common.{None}
use Rattle.paper.specs.Listing.{listed}
use Rattle.listing.specs.Sums.{find, test}
use Rattle.listing.proofs.sums.+seek.Given as goal

-- the number of cells
abbrev pub decreases-seek : goal.decreases-seek
decreases-seek l = l.cells

abbrev pub invariant-loop-c : goal.invariant-loop-c
invariant-loop-c l = find (test l.asked l.sum) (listed l.c l.v) ≡ None
