-- `search_weights` meets its contract: by sums of columns it finds what the products with the rows find.
use mathlib.Core.Path.{sym, ◌∙◌}
use Prim.Native.Nat.{◌-◌}
use native.Mathlib.Omega.{arith}
use Rattle.paper.specs.Words.{width}
use Rattle.listing.proofs.Linked.{linked}
use Rattle.listing.proofs.search_weights.Goals as goal

pub returns : goal.returns
returns c =
    let a = c.args in
    c.search_sums.ensures
    ∙ sym (linked width a.n a.clear.now a.stirred.now c.columns-cols.result a.y a.from (a.end - a.from) c.columns-cols.ensures (omega arith) c.low_cells.ensures c.least_of.ensures c.sum_of.ensures)
