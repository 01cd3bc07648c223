-- The columns of rows, and what adding a row after another makes of them. The contracts of the private functions speak of all but the first.
use Rattle.std.specs.Prelude.{◌≡◌, List, ℕ, ◌+◌, ◌*◌, ◌^◌, ◌<◌, get_or}
use Rattle.paper.specs.Words.{cell, products}

-- column i is the products of the rows with cell i alone
pub record Columns (rows cols : List ℕ) : Type 0 where
  pub column : (i : ℕ) → get_or cols i 0 ≡ products rows (2 ^ i)

-- each column is below b, so that b can be added to it as a bit that it does not have
pub record Below (b : ℕ) (cols : List ℕ) : Type 0 where
  pub low : (i : ℕ) → get_or cols i 0 < b

-- b is added to the columns of the row's cells
pub record AddedRow (row b : ℕ) (cols after : List ℕ) : Type 0 where
  pub sum : (i : ℕ) → get_or after i 0 ≡ get_or cols i 0 + cell row i * b

-- b times the products of the rows with each cell is added to its column
pub record Added (rows : List ℕ) (b : ℕ) (cols after : List ℕ) : Type 0 where
  pub sum : (i : ℕ) → get_or after i 0 ≡ get_or cols i 0 + products rows (2 ^ i) * b
