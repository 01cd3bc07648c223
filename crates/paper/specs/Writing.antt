-- Writing.
use Rattle.std.specs.Prelude.{Bool, ◌&&◌, ◌||◌, [], ◌∷◌, ℕ, ◌^◌, eqb, leb, ltb}
use Rattle.std.specs.Int.Bits.{bit_and}
use Rattle.paper.specs.First.{First, nowhere, at, first}
use Rattle.paper.specs.Words.{width, cell, sum, ◌⊕◌}
use Rattle.paper.specs.Refusals.{Told, answer, refusal, unless, unless_at}
use Rattle.paper.specs.Sheet.{Sheet, G1, G0, judged}

-- the sum wG1 + dG0
abbrev pub word_of : Sheet → ℕ → ℕ → ℕ
word_of s w d = sum (G1 s) w ⊕ sum (G0 s) d

-- "A word fits if it equals the level at every stuck cell."
abbrev pub fits : ℕ → ℕ → ℕ → Bool
fits stuck levels x = eqb (bit_and x stuck) levels

-- 8: "a stuck or level bit at cell n or above, or a level bit at a cell not stuck"
abbrev pub misplaced : ℕ → ℕ → ℕ → ℕ → Bool
misplaced n stuck levels i =
    (leb n i && (eqb (cell stuck i) 1 || eqb (cell levels i) 1)) || (eqb (cell levels i) 1 && eqb (cell stuck i) 0)

-- the smallest d whose word fits
abbrev pub fitting : Sheet → ℕ → ℕ → ℕ → First
fitting s w stuck levels = first (2 ^ s.l) (λ d. fits stuck levels (word_of s w d))

-- "The answer is the fitting word of message w whose d .. is the smallest number, and that d"; 9 if "no word of the message fits"
abbrev pub chosen : Sheet → ℕ → First → Told
chosen s w (at d) = answer (word_of s w d ∷ d ∷ [])
chosen s w nowhere = refusal 9 []

-- "then 7, 8, 9 for writing"
unfoldable pub writes_admitted : Sheet → ℕ → ℕ → ℕ → Told
unfolding first
writes_admitted s w stuck levels =
    unless (ltb w (2 ^ s.k)) 7
    (unless_at (first width (misplaced s.n stuck levels)) 8 0
    (chosen s w (fitting s w stuck levels)))

-- what writing message w answers: 1 to 6, then as on an admitted sheet
unfoldable pub writes : Sheet → ℕ → ℕ → ℕ → Told
unfolding judged writes_admitted
writes s w stuck levels = judged s (writes_admitted s w stuck levels)
