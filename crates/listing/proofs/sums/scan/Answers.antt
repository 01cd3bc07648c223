-- `scan` meets its contract: no cell below i has a column that meets the sum.
use mathlib.Core.Path.{sym}
use native.Mathlib.Omega.{arith}
use Rattle.paper.specs.Words.{◌⊕◌}
use Rattle.listing.proofs.Seeking.{scan-start, scan-more, scan-hit}
use Rattle.listing.proofs.sums.scan.Goals as goal

pub loop-i-init : goal.loop-i-init
loop-i-init c = scan-start _ _ _ _

pub returns-then-is_met : goal.returns-then-is_met
unfolding ◌⊕◌
returns-then-is_met c =
    let a = c.args in
    let t = a.asked.now in
    rw c.from.ensures (sym (scan-hit t.cols.now t.clear t.least a.sum c.loop-i.i a.cells c.loop-i.invariant (omega arith) (sym c.if-is_met.ensures) c.cell_of.ensures))

pub loop-i-preserved : goal.loop-i-preserved
unfolding ◌⊕◌
loop-i-preserved c =
    let a = c.args in
    let t = a.asked.now in
    scan-more t.cols.now t.clear t.least a.sum c.loop-i.i c.loop-i.invariant (sym c.if-is_met.ensures)
