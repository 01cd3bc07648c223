-- `products_of` meets its contract: from the last row down, the word is the products with the rows passed.
use Rattle.std.proofs.Common.{◌≡◌, ℕ, List, ◌++◌}
use Rattle.paper.specs.Words.{products}
use Rattle.words.proofs.products_of.Given as goal

abbrev pub invariant-loop-row : goal.invariant-loop-row
invariant-loop-row l = (passed : List ℕ) × (l.rows ≡ l.row-iterator.iter.rest.now ++ passed) × (l.word ≡ products passed l.x)
