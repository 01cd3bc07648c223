-- What the code's search answers and tests, in the paper's terms.
use Rattle.std.specs.Prelude.{Bool, not, ◌&&◌, ◌||◌, Some, None, List, map, ℕ, ◌+◌, eqb, length}
use Rattle.paper.specs.Words.{products, ◌⊕◌}
use Rattle.paper.specs.Listing.{Search, found, missed, listed}
use Rattle.listing.specs.declared.Found.{Found}

-- an answer of the code, as the paper's `Search`
abbrev pub searched : Found → Search
searched f = elim f.z [ Some z ↦ found z f.tried | None ↦ missed f.tried ]

-- the one test that serves reading, d0 and d1: every product of y + z with the rows `clear` is 0, and some product with the rows `stirred` is not;
-- no rows `stirred` ask nothing
unfoldable pub passes : List ℕ → List ℕ → ℕ → ℕ → Bool
passes clear stirred y z = eqb (products clear (y ⊕ z)) 0 && (eqb (length stirred) 0 || not (eqb (products stirred (y ⊕ z)) 0))

-- the words of weight v over n cells, each added to a base
abbrev pub above : ℕ → ℕ → ℕ → List ℕ
above base n v = map (λ z. base + z) (listed n v)
