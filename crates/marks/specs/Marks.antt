-- Marks: a table of bits that has one for the sum of each word of small weight.
use Rattle.std.specs.Prelude.{◌≡◌, List, ℕ, ◌-◌, ◌*◌, ◌/◌, ◌%◌, ◌^◌, ◌≤◌, ◌<◌, length, get_or}
use Rattle.std.specs.Int.Bits.{bit_and, bit_xor}
use Rattle.paper.specs.Words.{width, cell, weight, sum, ◌⊕◌}

-- the bit at place i of a table
abbrev pub bit : List ℕ → ℕ → ℕ
bit t i = cell (get_or t (i / width) 0) (i % width)

-- the place of x in a table of `size` words. Any place would do; this one spreads the sums of a few cells
abbrev pub slot : ℕ → ℕ → ℕ
slot size x = bit_and (bit_xor (x % 1000003) (x % 1000003 / 16)) (size * width - 1)

-- the mark of x
unfoldable pub mark : List ℕ → ℕ → ℕ
mark t x = bit t (slot (length t) x)

-- each word over n cells of weight at most v has its mark: that of s and its columns added up, at the cells of h
pub record Marked (t cols : List ℕ) (h s n v : ℕ) : Type 0 where
  pub word : (z : ℕ) → z < 2 ^ n → weight z ≤ v → mark t (bit_and h (s ⊕ sum cols z)) ≡ 1

-- what has its mark in t has it in u
pub record Kept (t u : List ℕ) : Type 0 where
  pub keeps : (x : ℕ) → mark t x ≡ 1 → mark u x ≡ 1

-- t is a table that `is_open` may be asked of, and the words over n cells of weight at most low have their marks, if low is not 0: what a search goes by
pub record Ready (t cols : List ℕ) (h n low : ℕ) : Type 0 where
  pub some : 1 ≤ length t
  pub room : length t ≤ 65536
  pub words : 0 < low → Marked t cols h 0 n low
