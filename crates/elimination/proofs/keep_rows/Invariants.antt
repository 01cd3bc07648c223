-- `keep_rows` meets its contract: the first j rows, on the mask's cells, are kept.
use Rattle.std.proofs.Common.{◌≡◌, take}
use Rattle.elimination.specs.Kept.{kept_rows, masked}
use Rattle.elimination.proofs.keep_rows.Given as goal

abbrev pub invariant-loop-j : goal.invariant-loop-j
invariant-loop-j l = take l.j l.kept ≡ kept_rows (take l.j (masked l.mask l.rows))
