-- Reading.
use Rattle.std.specs.Prelude.{Bool, ◌&&◌, [], ◌∷◌, ℕ, ◌+◌, eqb, leb}
use Rattle.paper.specs.First.{first}
use Rattle.paper.specs.Words.{width, cell, products, ◌⊕◌}
use Rattle.paper.specs.Listing.{Search, found, missed, weights, search}
use Rattle.paper.specs.Refusals.{Told, answer, refusal, unless, unless_at}
use Rattle.paper.specs.Sheet.{Sheet, H, M, judged}

-- 10: "read word has a bit at cell n or above"
abbrev pub stray_cell : ℕ → ℕ → ℕ → Bool
stray_cell n y i = leb n i && eqb (cell y i) 1

-- "the first z in the list, of weight at most t, for which y + z is a codeword"
unfoldable pub nearest : Sheet → ℕ → ℕ → Search
unfolding weights search
nearest s y t = search (λ z. eqb (products (H s) (y ⊕ z)) 0) 0 (weights s.n 0 (t + 1))

-- "It answers the message of y + z, z itself, and how many listed words were tried"; 12 with the "number tried: all of the list"
abbrev pub heard : Sheet → ℕ → Search → Told
heard s y (found z tried) = answer (products (M s) (y ⊕ z) ∷ z ∷ tried ∷ [])
heard s y (missed tried) = refusal 12 (tried ∷ [])

-- "The radius is 0 to 4."
abbrev pub most_radius : ℕ
most_radius = 4

-- "10, 11, 12 for reading"
unfoldable pub reads_admitted : Sheet → ℕ → ℕ → Told
unfolding first nearest
reads_admitted s y t =
    unless_at (first width (stray_cell s.n y)) 10 0 (unless (leb t most_radius) 11 (heard s y (nearest s y t)))

-- what reading y at radius t answers: 1 to 6, then as on an admitted sheet
unfoldable pub reads : Sheet → ℕ → ℕ → Told
unfolding judged reads_admitted
reads s y t = judged s (reads_admitted s y t)
