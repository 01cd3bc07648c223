-- `find_stray_cell` meets its contract.
use mathlib.Core.Path.{ap, ◌∙◌}
use Prim.Native.Nat.{ℕ}
use lib.Dec.{eqb}
use Rattle.paper.specs.First.{first}
use Rattle.paper.specs.Words.{width, cell}
use Rattle.words.proofs.Firsts.{first-same}
use Rattle.reading.proofs.Breaches.{stray-cell}
use Rattle.reading.proofs.find_stray_cell.Goals as goal

pub returns : goal.returns
returns c =
    let a = c.args in
    c.lowest_of.ensures ∙ ap (λ (x : ℕ). first width (λ i. eqb (cell x i) 1)) c.strays_of.ensures
    ∙ first-same _ _ width (λ i l. stray-cell a.n a.y i)
