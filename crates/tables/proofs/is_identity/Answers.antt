-- `is_identity` meets its contract: each row before i has its cell alone.
use mathlib.Core.Path.{sym, ap}
use mathlib.Core.Bool.{not}
use native.Mathlib.Omega.{arith}
use borrow.Author.Tests.{eq-eqb}
use Rattle.words.proofs.Firsts.{any_some, any-never}
use Rattle.sheet.proofs.Tests.{eqb_no}
use Rattle.tables.proofs.is_identity.Goals as goal

pub returns-then-cells_of-cell_of : goal.returns-then-cells_of-cell_of
returns-then-cells_of-cell_of c =
    sym (ap not (any_some _ _ _ c.loop-i-test.true (ap not (eqb_no c.cells_of.ensures c.cell_of.ensures c.if-cells_of-cell_of.true))))

pub returns : goal.returns
returns c = sym (ap not (any-never _ _ (λ j l. ap not (eq-eqb _ _ (c.loop-i.invariant j (omega arith))))))
