-- `gather_run` meets its contract: what is gathered of each slot of the run is what the records that were passed gather to.
use mathlib.Core.Path.{◌≡◌}
use lib.ListN.{length}
use Rattle.records.specs.Runs.{run}
use Rattle.records.proofs.Passes.{Gathers}
use Rattle.records.proofs.run.gather_run.Given as goal

abbrev pub invariant-loop-r : goal.invariant-loop-r
invariant-loop-r l = (length l.all ≡ run) × Gathers l.base l.n l.records l.all l.r-index
