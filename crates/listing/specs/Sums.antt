-- The search by sums of columns: what is asked of a sum, and the first listed word whose sum meets it.
use Rattle.std.specs.Prelude.{Bool, true, false, ◌&&◌, List, [], ◌∷◌, ℕ, ◌+◌, eqb, leb, Option, Some, None}
use Rattle.std.specs.Int.Bits.{bit_and}
use Rattle.paper.specs.Words.{sum, ◌⊕◌}
use Rattle.marks.specs.Marks.{Ready}
use Rattle.listing.specs.declared.sums.Hit.{Hit}
use Rattle.listing.specs.declared.sums.Asked.{Asked}

-- a word z and its place
abbrev pub here : ℕ → ℕ → Option Hit
here z place = Some (record { z = z; place = place })

-- a word moved by f, and its place by b
abbrev pub moved : (ℕ → ℕ) → ℕ → Option Hit → Option Hit
moved f b (Some hit) = here (f hit.z) (hit.place + b)
moved f b None = None

-- the first word of a list that passes p, with its place counted from 1; or none
unfoldable pub find : (ℕ → Bool) → List ℕ → Option Hit
find p [] = None
find p (z ∷ zs) = elim (p z) [ true ↦ here z 1 | false ↦ moved (λ x. x) 1 (find p zs) ]

-- where rows ask for a product other than 0, the sum is at least 1
abbrev pub demand : List ℕ → ℕ
demand [] = 0
demand (row ∷ rows) = 1

-- a sum s is met: 0 at the cells of h, and at least o
abbrev pub meets : ℕ → ℕ → ℕ → Bool
meets h o s = eqb (bit_and h s) 0 && leb o s

-- the sum of s and the columns that z picks is met
unfoldable pub fits : List ℕ → ℕ → ℕ → ℕ → ℕ → Bool
fits cols h o s z = meets h o (s ⊕ sum cols z)

-- ---- what the code's values mean

-- the test of a word, with the sum s carried along
abbrev pub test : Asked → ℕ → ℕ → Bool
test a s = fits a.cols.now a.clear a.least s

-- each word over n cells of a small weight has its mark
abbrev pub Marks : Asked → ℕ → Type 0
Marks a n = Ready a.marks.now a.cols.now a.clear n a.low
