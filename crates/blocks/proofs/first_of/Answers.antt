-- `first_of` meets its contract: at the width and above all cells are below.
use mathlib.Core.Path.{sym}
use Prim.Native.Nat.{◌^◌, ◌<◌}
use native.Mathlib.Nat.{mod-eq_of_lt, lt_of_lt_of_le}
use native.Mathlib.Omega.{arith}
use lib.Pow.{pow_mono}
use Rattle.paper.specs.Words.{width}
use Rattle.blocks.proofs.first_of.Goals as goal

pub returns-else-count-lt-WIDTH : goal.returns-else-count-lt-WIDTH
returns-else-count-lt-WIDTH c =
    let a = c.args in
    let h : a.x < 2 ^ width = omega arith in
    sym (mod-eq_of_lt (lt_of_lt_of_le h (pow_mono c.if-count-lt-WIDTH.false)))
