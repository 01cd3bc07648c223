-- Words of cells, as numbers.
use Rattle.std.specs.Prelude.{List, [], ◌∷◌, ℕ, ◌+◌, ◌*◌, ◌/◌, ◌%◌, ◌^◌}
use Rattle.std.specs.Int.Bits.{bit_and, bit_xor}
use Rattle.std.specs.Int.Count.{ones}

infixl 60 ◌⊕◌
-- the number of cells that a machine's word has. Document 02, request 5: "rows, words and messages are 64 bits wide"
abbrev pub width : ℕ
width = 64

-- "Bit i of a row is cell i; cell 0 is the lowest bit."
abbrev pub cell : ℕ → ℕ → ℕ
cell x i = x / 2 ^ i % 2

-- "Sums are modulo 2."
unfoldable pub ◌⊕◌ : ℕ → ℕ → ℕ
a ⊕ b = bit_xor a b

-- "weight (number of ones)"
abbrev pub weight : ℕ → ℕ
weight x = ones x

-- "The product of two words is the parity of the cells that are 1 in both."
abbrev pub product : ℕ → ℕ → ℕ
product a b = ones (bit_and a b) % 2

-- the products of x with each row, as a word: bit i for row i
unfoldable pub products : List ℕ → ℕ → ℕ
products [] x = 0
products (row ∷ rows) x = product row x + 2 * products rows x

-- the sum of the rows that d picks: "with bit j for row j"
unfoldable pub sum : List ℕ → ℕ → ℕ
unfolding ◌⊕◌
sum [] d = 0
sum (row ∷ rows) d = d % 2 * row ⊕ sum rows (d / 2)
