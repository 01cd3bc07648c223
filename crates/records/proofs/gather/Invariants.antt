-- `gather` meets its contract: what is gathered is what the records that were passed gather to.
use Rattle.std.proofs.Common.{◌≡◌, take, Ok}
use Rattle.records.specs.Gather.{gather_of}
use Rattle.records.proofs.gather.Given as goal

abbrev pub invariant-loop-r : goal.invariant-loop-r
invariant-loop-r l = Ok l.acc ≡ gather_of l.slot l.n (take l.r-index l.records)
