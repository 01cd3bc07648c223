-- `take_in` meets its contract: the texts of the steps so far, one after the other, are the answer to what was taken of the piece.
-- Each turn takes a byte at least, and the rooms keep their lengths.
use mathlib.Core.Path.{◌≡◌}
use Prim.Native.Nat.{◌≤◌}
use lib.ListN.{length, take}
use Rattle.talk.specs.Talk.{Answered}
use Rattle.console.proofs.take_in.Given as goal

abbrev pub invariant-loop-rest : goal.invariant-loop-rest
invariant-loop-rest g l = record {
  inside : l.held ≤ length l.line;
  lines : length l.line ≡ length l.initial.line;
  numbers : length l.ns ≡ length l.initial.ns;
  texts : length l.out ≡ length l.initial.out;
  answered : Answered (take l.initial.held l.initial.line) l.input (take l.held l.line) l.rest;
}

abbrev pub decreases-loop-rest : goal.decreases-loop-rest
decreases-loop-rest g l = length l.rest
