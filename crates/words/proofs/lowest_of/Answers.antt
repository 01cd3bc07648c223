-- `lowest_of` meets its contract: the machine's trailing zeros end at the first cell that is 1.
use mathlib.Core.Path.{sym, ap}
use Prim.Native.Nat.{ℕ}
use borrow.Author.Tests.{eq-eqb, ne_eqb}
use native.Mathlib.Omega.{arith}
use lib.Count.{count_trailing_zeros}
use Rattle.paper.specs.Words.{width, cell}
use Rattle.words.proofs.Cells.{cell-of-0, trailing_at, trailing_below, trailing_lt}
use Rattle.words.proofs.Firsts.{first-is, none_below}
use Rattle.words.proofs.lowest_of.Goals as goal

pub returns-then-x-eq0 : goal.returns-then-x-eq0
returns-then-x-eq0 c =
    let x = c.args.x in
    sym (none_below _ width (λ i l. ne_eqb (cell x i) 1 (λ e. omega (arith, cell-of-0 i, ap (λ (y : ℕ). cell y i) c.if-x-eq0.true))))

pub returns-else-x-eq0 : goal.returns-else-x-eq0
returns-else-x-eq0 c =
    let x = c.args.x in
    sym
    (first-is _ width (count_trailing_zeros width x) (trailing_lt width x (omega arith) (omega arith))
    (eq-eqb _ _ (trailing_at width x (omega arith) (omega arith)))
    (λ j l. ne_eqb (cell x j) 1 (λ e. omega (arith, trailing_below width x j l))))
