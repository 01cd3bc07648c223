-- `write_some` meets its contract: a write that was broken off writes nothing.
-- It is how a write that a signal broke off is tried again.
use Rattle.std.specs.Io.KnownBytes.{Keeps}
use Rattle.streams.proofs.write_some.Given as goal

abbrev pub invariant-loop : goal.invariant-loop
invariant-loop g l = Keeps (g.W.Write.contents l.initial.to) (g.W.Write.contents l.to)
