-- The plate: the two distances, and how they are measured.
use Rattle.std.specs.Prelude.{◌≡◌, Bool, not, ◌&&◌, [], ◌∷◌, ℕ, ◌-◌, ◌/◌, ◌^◌, ◌≤◌, ◌<◌, eqb, leb}
use Rattle.paper.specs.Words.{weight, products}
use Rattle.paper.specs.Listing.{Search, found, missed, weights, search}
use Rattle.paper.specs.Refusals.{Told, answer, more, unless}
use Rattle.paper.specs.Sheet.{Sheet, G0, H, M, Codeword, judged}

-- d is "the least weight of" a word with a property
pub record Least (P : ℕ → Type 0) (d : ℕ) : Type 0 where
  pub word : ℕ
  pub has : P word
  pub weighs : weight word ≡ d
  pub none-lighter : (x : ℕ) → P x → d ≤ weight x

-- "a nonzero word whose product with every row of G0 is 0"
pub record Masked (s : Sheet) (x : ℕ) : Type 0 where
  pub cells : x < 2 ^ s.n
  pub nonzero : 0 < x
  pub clear : products (G0 s) x ≡ 0

-- "a codeword with a message other than 0"
pub record Hidden (s : Sheet) (x : ℕ) : Type 0 where
  pub code : Codeword s x
  pub message : 0 < products (M s) x

-- "d0 is the least weight of a nonzero word whose product with every row of G0 is 0."
abbrev pub D0 : Sheet → ℕ → Type 0
D0 s = Least (Masked s)

-- "d1 is the least weight of a codeword with a message other than 0."
abbrev pub D1 : Sheet → ℕ → Type 0
D1 s = Least (Hidden s)

-- "A measurement takes a cap of 1 to 8 and tries listed words from weight 1 up to the cap."
unfoldable pub search_d0 : Sheet → ℕ → Search
unfolding weights search
search_d0 s cap = search (λ z. eqb (products (G0 s) z) 0) 0 (weights s.n 1 cap)

-- the same for d1
unfoldable pub search_d1 : Sheet → ℕ → Search
unfolding weights search
search_d1 s cap = search (λ z. eqb (products (H s) z) 0 && not (eqb (products (M s) z) 0)) 0 (weights s.n 1 cap)

-- document 02, request 3: "the printed radius is half of d1 - 1, rounded down"
abbrev pub printed : ℕ → ℕ
printed d = (d - 1) / 2

-- "Where d1 is more than the cap it stays as it was": half of the cap, rounded down
abbrev pub printed_beyond : ℕ → ℕ
printed_beyond cap = cap / 2

-- "It answers the distance, or "more than the cap", and the number tried"
abbrev pub plate_d0 : Search → Told
plate_d0 (found z tried) = answer (weight z ∷ tried ∷ [])
plate_d0 (missed tried) = more (tried ∷ [])

-- the same, and it "also answers the radius to print on the plate"
abbrev pub plate_d1 : ℕ → Search → Told
plate_d1 cap (found z tried) = answer (weight z ∷ tried ∷ printed (weight z) ∷ [])
plate_d1 cap (missed tried) = more (tried ∷ printed_beyond cap ∷ [])

-- "a cap of 1 to 8"
abbrev pub most_cap : ℕ
most_cap = 8

-- 11: "cap 0 or above 8"
abbrev pub capped : ℕ → Bool
capped cap = leb 1 cap && leb cap most_cap

-- "11 for measuring", d0 first
unfoldable pub measures_admitted_d0 : Sheet → ℕ → Told
unfolding search_d0
measures_admitted_d0 s cap = unless (capped cap) 11 (plate_d0 (search_d0 s cap))

-- the same for d1
unfoldable pub measures_admitted_d1 : Sheet → ℕ → Told
unfolding search_d1
measures_admitted_d1 s cap = unless (capped cap) 11 (plate_d1 cap (search_d1 s cap))

-- what measuring d0 answers: 1 to 6, then as on an admitted sheet
unfoldable pub measures_d0 : Sheet → ℕ → Told
unfolding judged measures_admitted_d0
measures_d0 s cap = judged s (measures_admitted_d0 s cap)

-- what measuring d1 answers
unfoldable pub measures_d1 : Sheet → ℕ → Told
unfolding judged measures_admitted_d1
measures_d1 s cap = judged s (measures_admitted_d1 s cap)
