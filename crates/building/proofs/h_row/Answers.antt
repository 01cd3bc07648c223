-- `h_row` meets its contract: a column is the products with a single cell, and that of Q + RP is a sum of products.
use mathlib.Core.Path.{◌≡◌, sym, ap, ap₂, ◌∙◌, subst}
use Prim.Native.Nat.{ℕ, ◌^◌, ◌<◌}
use lib.Bits.{bit_xor}
use lib.ListN.{length}
use Rattle.paper.specs.Words.{width, products, ◌⊕◌}
use Rattle.paper.specs.Tables.{Tables, column, joined}
use Rattle.blocks.proofs.Columns.{column-products}
use Rattle.building.specs.Rows.{mixed, row_h}
use Rattle.building.proofs.Rows.{column-mixed}
use Rattle.building.proofs.h_row.Goals as goal

-- what is joined is the row: of a cell, the products with P, then those with Q and those of R's rows with the former; i are the fields of t
is_row : {i t : Tables} (c : ℕ) {unit first q r : ℕ} → i ≡ t → length t.Q ≡ length t.R → unit ≡ 2 ^ c → first ≡ products i.P unit → q ≡ products i.Q unit
    → r ≡ products i.R first → joined i.k i.l first (bit_xor q r) unit ≡ row_h t.k t.l t.P t.R t.Q c
unfolding ◌⊕◌
is_row {i} {t} c {unit} {first} {q} {r} v same u f e g =
    let first-is : first ≡ products i.P (2 ^ c) = f ∙ ap (products i.P) u in
    let middle : bit_xor q r ≡ column (mixed i.P i.R i.Q) c =
    ap₂ bit_xor (e ∙ ap (products i.Q) u) (g ∙ ap (products i.R) first-is) ∙ sym (column-mixed i.P i.R i.Q c (rw v same)) in
    ap₂ (λ (x y : ℕ). joined i.k i.l x y unit) (first-is ∙ sym (column-products i.P c)) middle
    ∙ ap₂ (λ (s : Tables) (x : ℕ). joined s.k s.l (column s.P c) (column (mixed s.P s.R s.Q) c) x) v u

pub join-requires : goal.join-requires
join-requires c =
    subst (λ (x : ℕ). x < 2 ^ width)
    (sym (is_row c.args.c c.tables.view_is c.requires.3 c.cell_of-unit.ensures c.products_of-first.ensures c.products_of.ensures c.products_of-2.ensures))
    c.requires.4

pub returns : goal.returns
returns c =
    c.join.ensures
    ∙ is_row c.args.c c.tables.view_is c.requires.3 c.cell_of-unit.ensures c.products_of-first.ensures c.products_of.ensures c.products_of-2.ensures
