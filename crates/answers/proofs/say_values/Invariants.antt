-- `say_values` meets its contract: the text that is put and that of the labels and values that are left are the whole.
-- It is one loop for the labels of every verb.
use mathlib.Core.Path.{◌≡◌}
use mathlib.Core.List.{◌++◌}
use Prim.Native.Nat.{◌+◌, ◌*◌, ◌≤◌}
use lib.ListN.{length, take, drop}
use Rattle.answers.specs.Answers.{labelled}
use Rattle.answers.proofs.say_values.Given as goal

abbrev pub invariant-loop-value : goal.invariant-loop-value
invariant-loop-value l = record {
  wide : length l.out ≡ length l.initial.out;
  few : l.to + length l.labels ≤ l.at + length l.initial.labels + 20 * l.value-index;
  whole : take l.at l.initial.out ++ labelled l.initial.labels l.values ≡ take l.to l.out ++ labelled l.labels (drop l.value-index l.values);
  kept : drop l.to l.out ≡ drop l.to l.initial.out;
}
