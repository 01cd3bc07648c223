-- The words in which the promises speak, beside the definitions of the calls: what is good to hand in, and what an answer then says.
-- Each is a record of facts; no call is defined by them.
use Rattle.std.specs.Prelude.{◌≡◌, true, ◌⊎◌, List, [], ◌∷◌, ℕ, ◌+◌, ◌-◌, ◌^◌, ◌≤◌, ◌<◌, min, length, get_or}
use Rattle.std.specs.Int.Bits.{bit_and}
use Rattle.paper.specs.Words.{width, weight, ◌⊕◌}
use Rattle.paper.specs.Listing.{weights}
use Rattle.paper.specs.Refusals.{answer, more}
use Rattle.paper.specs.Sheet.{Sheet, G1, G0, Codeword, WordOf}
use Rattle.paper.specs.Writing.{word_of, fits}
use Rattle.paper.specs.Reading.{most_radius}
use Rattle.paper.specs.Plate.{Least, measures_d1}
use Rattle.paper.specs.Tables.{built_g1, built_g0}

-- stuck cells and levels that rule 8 does not refuse: all stuck cells below n, and a level only where a cell is stuck
pub record Stuck (s : Sheet) (stuck levels : ℕ) : Type 0 where
  pub cells : stuck < 2 ^ s.n
  pub inside : bit_and levels stuck ≡ levels

-- "the fitting word of message w whose d, with bit j for row j of G0, is the smallest number, and that d"
pub record Fitting (s : Sheet) (w stuck levels x d : ℕ) : Type 0 where
  pub word : WordOf s w x
  pub fit : fits stuck levels x ≡ true
  pub own : x ≡ word_of s w d
  pub low : d < 2 ^ s.l
  pub smallest : (x' : ℕ) → WordOf s w x' → fits stuck levels x' ≡ true → (d' : ℕ) × (d' < 2 ^ s.l) × (x' ≡ word_of s w d') × (d ≤ d')

-- a is not after b in the list: "by weight (number of ones), then by value"
abbrev pub Before : ℕ → ℕ → Type 0
Before a b = (weight a < weight b) ⊎ ((weight a ≡ weight b) × (a ≤ b))

-- z is the first of the list with P, and `tried` is "the place of z in the list, counted from 1"
pub record Placed (P : ℕ → Type 0) (list : List ℕ) (z tried : ℕ) : Type 0 where
  pub some : 1 ≤ tried
  pub inside : tried ≤ length list
  pub stands : get_or list (tried - 1) 0 ≡ z
  pub hit : P z
  pub first : (j : ℕ) → j + 1 < tried → P (get_or list j 0) → ⊥

-- "the message of y + z, z itself, and how many listed words were tried", z being the first listed word for which y + z is a codeword
pub record Nearest (s : Sheet) (y t m z tried : ℕ) : Type 0 where
  pub message : WordOf s m (y ⊕ z)
  pub cells : z < 2 ^ s.n
  pub within : weight z ≤ t
  -- of the nearest codewords, the one whose difference from y stands first in the list
  pub first : (u : ℕ) → u < 2 ^ s.n → Codeword s (y ⊕ u) → Before z u
  pub place : Placed (λ u. Codeword s (y ⊕ u)) (weights s.n 0 (t + 1)) z tried

-- d was measured, `tried` being "the place of the first hit in the list begun at weight 1"
pub record Measured (P : ℕ → Type 0) (n cap d tried : ℕ) : Type 0 where
  pub distance : Least P d
  pub within : d ≤ cap
  pub hit : ℕ
  pub weighs : weight hit ≡ d
  pub place : Placed P (weights n 1 cap) hit tried

-- more than the cap was measured, `tried` being "the length of the list"
pub record Beyond (P : ℕ → Type 0) (n cap tried : ℕ) : Type 0 where
  pub whole : tried ≡ length (weights n 1 cap)
  pub far : (x : ℕ) → P x → cap + 1 ≤ weight x

-- the radius that a measurement of d1 prints, and the number that demand 3 holds its double against: d1 where it was found,
-- "the cap plus 1 in its place" where d1 is more than the cap
pub data Printed (s : Sheet) (cap d radius : ℕ) : Type 0 where
  by-d1 : (tried : ℕ) → measures_d1 s cap ≡ answer (d ∷ tried ∷ radius ∷ []) → Printed s cap d radius
  by-cap : (tried : ℕ) → measures_d1 s cap ≡ more (tried ∷ radius ∷ []) → d ≡ cap + 1 → Printed s cap d radius

-- document 02, request 3: "the printed radius, held to 4"
abbrev pub held : ℕ → ℕ
held radius = min most_radius radius

-- document 02, request 4: "tables of the right sizes", with n, k and l as refusal 1 asks
pub record Fits (n k l : ℕ) (P R Q : List ℕ) : Type 0 where
  pub some-cells : 1 ≤ n
  pub few-cells : n ≤ width
  pub some-message : 1 ≤ k
  pub space : k + l ≤ n
  pub rows-P : length P ≡ k
  pub rows-R : length R ≡ l
  pub rows-Q : length Q ≡ l
  pub columns-P : (i : ℕ) → i < k → get_or P i 0 < 2 ^ (n - (k + l))
  pub columns-R : (j : ℕ) → j < l → get_or R j 0 < 2 ^ k
  pub columns-Q : (j : ℕ) → j < l → get_or Q j 0 < 2 ^ (n - (k + l))

-- a sheet "whose G1 and G0 have that shape", with these tables
pub record Systematic (s : Sheet) (P R Q : List ℕ) : Type 0 where
  pub fits : Fits s.n s.k s.l P R Q
  pub is-G1 : G1 s ≡ built_g1 s.k s.l P
  pub is-G0 : G0 s ≡ built_g0 s.k s.l R Q
