-- `run` meets its contract: it is safe and ends. What is held is within the room and has no newline.
-- It is the loop over the pieces of the input.
use Prim.Native.Nat.{◌≤◌}
use lib.ListN.{length, take}
use Rattle.text.specs.Tokens.{Whole}
use Rattle.console.proofs.run.Given as goal

abbrev pub invariant-loop : goal.invariant-loop
invariant-loop g l = record { inside : l.held ≤ length l.line; whole : Whole 10 (take l.held l.line) }
