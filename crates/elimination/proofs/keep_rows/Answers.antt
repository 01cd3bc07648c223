-- `keep_rows` meets its contract: the first j rows, on the mask's cells, are kept.
use Rattle.std.proofs.Common.{◌≡◌, ℕ, refl, bit_and, length, take, length-take, arith}
use lib.ListN.{length-map}
use Rattle.paper.specs.Words.{◌⊕◌}
use Rattle.elimination.specs.Kept.{kept_rows, masked}
use Rattle.elimination.proofs.Masked.{masked-at}
use Rattle.elimination.proofs.Solutions.{keeps-more}
use Rattle.elimination.proofs.keep_rows.Goals as goal

pub loop-j-init : goal.loop-j-init
unfolding kept_rows
loop-j-init c = refl

pub loop-j-preserved : goal.loop-j-preserved
unfolding ◌⊕◌
loop-j-preserved c =
    let l = c.loop-j in
    let a = c.args in
    let n : length (take l.j l.kept) ≡ l.j = omega (arith, length-take l.j l.kept) in
    keeps-more (masked a.mask a.rows.now) l.kept l.j _ l.invariant (omega (arith, length-map a.rows.now (λ (row : ℕ). bit_and row a.mask))) (omega arith)
    (rw (c.cell_of.ensures, c.reduce-r.ensures, masked-at a.mask a.rows.now l.j, n))
