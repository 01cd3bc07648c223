-- `reduce` meets its contract: `rest` and `choice` are what the kept rows so far leave of x, and its choice.
use Rattle.std.proofs.Common.{◌≡◌, take}
use Rattle.elimination.specs.Kept.{reduced}
use Rattle.elimination.proofs.reduce.Given as goal

abbrev pub invariant-loop-row : goal.invariant-loop-row
invariant-loop-row l = record { rest = l.rest; choice = l.choice } ≡ reduced (take l.row-index l.kept) l.x
