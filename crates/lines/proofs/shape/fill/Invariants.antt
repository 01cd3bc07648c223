-- `fill` meets its contract: the numbers read and those of the tokens and letters that are left are all the numbers.
-- Each number takes two bytes of the line at least, so that the room for the numbers cannot run out.
use mathlib.Core.Path.{◌≡◌}
use Prim.Native.Nat.{◌+◌, ◌*◌, ◌≤◌}
use lib.ListN.{length, take}
use Rattle.text.specs.Tokens.{cut}
use Rattle.lines.specs.Shapes.{fill, filled, unread}
use Rattle.lines.proofs.Shapes.{after}
use Rattle.lines.proofs.shape.fill.Given as goal

abbrev pub invariant-loop-letter : goal.invariant-loop-letter
invariant-loop-letter l = record {
  few : 2 * l.count + length l.rest ≤ length l.line;
  wide : length l.numbers ≡ length l.initial.numbers;
  whole : fill l.shape (cut 32 l.line) ≡ after (take l.count l.numbers) (fill (unread l.cursor) (cut 32 l.rest));
  room : filled 0 l.initial.numbers l.shape (cut 32 l.line) ≡ filled l.count l.numbers (unread l.cursor) (cut 32 l.rest);
}

abbrev pub decreases-loop-letter : goal.decreases-loop-letter
decreases-loop-letter l = length l.rest
