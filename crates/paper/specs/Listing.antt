-- "Words over n cells are listed by weight (number of ones), then by value."
use Rattle.std.specs.Prelude.{Bool, true, false, List, [], ◌∷◌, ◌++◌, map, ℕ, zero, suc, ◌+◌, ◌^◌}

-- "Over 0 cells the only word is 0, of weight 0. The words of weight v over n cells are those of weight v over the lower n - 1 cells,
-- then those of weight v - 1 over the lower n - 1 cells with cell n - 1 added."
unfoldable pub listed : ℕ → ℕ → List ℕ
listed zero zero = 0 ∷ []
listed zero (suc v) = []
listed (suc n) zero = listed n zero
listed (suc n) (suc v) = listed n (suc v) ++ map (λ z. z + 2 ^ n) (listed n v)

-- the list over n cells from weight v on, for `count` weights
unfoldable pub weights : ℕ → ℕ → ℕ → List ℕ
unfolding listed
weights n v zero = []
weights n v (suc count) = listed n v ++ weights n (suc v) count

-- what a search of the list finds: a word and "the place of z in the list, counted from 1"; or that all of the list was tried
pub data Search : Type 0 where
  found : ℕ → ℕ → Search
  missed : ℕ → Search

-- the first word of the list that passes the test, `tried` words having been tried before
unfoldable pub search : (ℕ → Bool) → ℕ → List ℕ → Search
search p tried [] = missed tried
search p tried (z ∷ zs) = elim (p z) [ true ↦ found z (tried + 1) | false ↦ search p (tried + 1) zs ]
