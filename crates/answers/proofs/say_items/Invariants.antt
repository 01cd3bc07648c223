-- `say_items` meets its contract: the text that is put and that of the numbers that are left are the whole.
-- It is one loop for every list of an answer.
use mathlib.Core.Path.{◌≡◌}
use mathlib.Core.List.{◌++◌}
use Prim.Native.Nat.{◌+◌, ◌*◌, ◌≤◌}
use lib.ListN.{length, take, drop}
use Rattle.answers.specs.Answers.{spaced}
use Rattle.answers.proofs.say_items.Given as goal

abbrev pub invariant-loop-x : goal.invariant-loop-x
invariant-loop-x l = record {
  wide : length l.out ≡ length l.initial.out;
  few : l.to ≤ l.at + 21 * l.x-index;
  whole : take l.at l.initial.out ++ spaced l.xs ≡ take l.to l.out ++ spaced (drop l.x-index l.xs);
  kept : drop l.to l.out ≡ drop l.to l.initial.out;
}
