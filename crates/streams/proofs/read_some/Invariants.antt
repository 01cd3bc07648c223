-- `read_some` meets its contract: a read that was broken off takes nothing, and the room keeps its length.
-- It is how a read that a signal broke off is tried again.
use Rattle.std.proofs.Common.{◌≡◌, length}
use Rattle.std.specs.Io.KnownBytes.{Keeps}
use Rattle.streams.proofs.read_some.Given as goal

abbrev pub invariant-loop : goal.invariant-loop
invariant-loop g l = (length l.input ≡ length l.initial.input) × Keeps (g.R.Read.remaining l.initial.from) (g.R.Read.remaining l.from)
