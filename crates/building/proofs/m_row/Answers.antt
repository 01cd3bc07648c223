-- `m_row` meets its contract: a column is the products with a single cell.
use mathlib.Core.Path.{◌≡◌, sym, ap, ap₂, ◌∙◌, subst}
use Prim.Native.Nat.{ℕ, ◌^◌, ◌<◌}
use Rattle.paper.specs.Words.{width, products}
use Rattle.paper.specs.Tables.{Tables, joined}
use Rattle.blocks.proofs.Columns.{column-products}
use Rattle.building.specs.Rows.{row_m}
use Rattle.building.proofs.m_row.Goals as goal

-- what is joined is the row: a cell, and the products of R's rows with it; s are the fields of t
is_row : {s t : Tables} (i : ℕ) {unit r : ℕ} → s ≡ t → unit ≡ 2 ^ i → r ≡ products s.R unit → joined s.k s.l unit r 0 ≡ row_m t.k t.l t.R i
is_row {s} i v u e =
    ap₂ (λ (x y : ℕ). joined s.k s.l x y 0) u (e ∙ ap (products s.R) u ∙ sym (column-products s.R i))
    ∙ ap (λ (t : Tables). row_m t.k t.l t.R i) v

pub join-requires : goal.join-requires
join-requires c =
    subst (λ (x : ℕ). x < 2 ^ width) (sym (is_row c.args.i c.tables.view_is c.cell_of-unit.ensures c.products_of.ensures)) c.requires.2

pub returns : goal.returns
returns c = c.join.ensures ∙ is_row c.args.i c.tables.view_is c.cell_of-unit.ensures c.products_of.ensures
