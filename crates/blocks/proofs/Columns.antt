-- Columns of a table: a row of the transposed table is the products with a single cell, so products with it are cells of sums of rows.
-- For Pᵀ, Rᵀ and (Q + RP)ᵀ. Assumes nothing.
use mathlib.Core.Path.{◌≡◌, refl, sym, ap, ap₂, ◌∙◌}
use mathlib.Core.List.{List, [], ◌∷◌}
use Prim.Native.Nat.{ℕ, ◌+◌, ◌*◌, ◌^◌, ◌<◌}
use lib.ListN.{length, get_or}
use Rattle.paper.specs.Words.{cell, product, products, sum}
use Rattle.paper.specs.Tables.{column}
use Rattle.words.proofs.Products.{product-comm, product-unit, products_lt, cell-products}
use Rattle.words.proofs.Rows.{product-sum}

pub column-products : (rows : List ℕ) (c : ℕ) → column rows c ≡ products rows (2 ^ c)
unfolding column products
column-products [] c = refl
column-products (row ∷ rows) c = ap₂ (λ (x y : ℕ). x + 2 * y) (sym (product-unit row c)) (column-products rows c)

pub column-lt : (m : ℕ) (rows : List ℕ) → length rows ≡ m → (c : ℕ) → column rows c < 2 ^ m
column-lt m rows e c = rw (sym e, column-products rows c) (products_lt rows (2 ^ c))

-- bit i is bit c of row i
pub cell-column : (rows : List ℕ) (c i : ℕ) → cell (column rows c) i ≡ cell (get_or rows i 0) c
cell-column rows c i = rw (column-products rows c, cell-products rows (2 ^ c) i) (product-unit (get_or rows i 0) c)

-- a row times the transposed table's row: a cell of the sum of the rows that it picks
pub product-column : (d : ℕ) (rows : List ℕ) (c : ℕ) → product d (column rows c) ≡ cell (sum rows d) c
product-column d rows c = ap (product d) (column-products rows c) ∙ sym (product-sum rows d (2 ^ c)) ∙ product-unit (sum rows d) c

-- the same for a row of the identity
pub unit-column : (i : ℕ) (rows : List ℕ) (c : ℕ) → product (2 ^ i) (column rows c) ≡ cell (get_or rows i 0) c
unit-column i rows c = product-comm (2 ^ i) (column rows c) ∙ product-unit (column rows c) i ∙ cell-column rows c i
