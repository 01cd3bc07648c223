-- Labels with values, one after the other, what was told by its kind, and the numbers of a list.
-- The functions' proofs cite them.
use mathlib.Core.Path.{◌≡◌, refl, sym, ap, ap₂, ◌∙◌}
use mathlib.Core.List.{List, [], ◌∷◌, ◌++◌, append_assoc}
use Prim.Native.Nat.{ℕ, zero, suc, ◌+◌, ◌≤◌, ◌<◌}
use native.Mathlib.Numerals.{add-one}
use native.Mathlib.Omega.{arith}
use lib.ListN.{length, get_or, drop, drop_of_length-le}
use lib.Seq.{drop-cons}
use Rattle.text.specs.Tokens.{up_to}
use Rattle.text.specs.Puts.{decimal}
use denote.Ref.{Bor}
use Rattle.std.specs.Prelude.{Option, Some, None, MatchOption}
use Rattle.paper.specs.Refusals.{refusal}
use Rattle.told.specs.Telling.{told_by}
use Rattle.answers.specs.Answers.{labelled, said, spaced}

-- what is left of the labels behind the first, by what `next_token` ensures: nothing if it is the last
labels-left : (labels label next : List ℕ) (rest : Option (Bor (List ℕ))) → label ≡ up_to 124 labels
    → MatchOption rest (length label ≡ length labels) (λ r. (length label + 1 + length r.now ≡ length labels) × (r.now ≡ drop (length label + 1) labels))
    → MatchOption rest (next ≡ []) (λ r. next ≡ r.now) → next ≡ drop (suc (length (up_to 124 labels))) labels
labels-left labels label next None first e is =
    let past : length labels ≤ suc (length (up_to 124 labels)) = omega (arith, e, ap length first) in
    is ∙ sym (drop_of_length-le labels past)
labels-left labels label next (Some x) first e is =
    is ∙ e.1 ∙ ap (λ (k : ℕ). drop k labels) (let k : length label + 1 ≡ suc (length (up_to 124 labels)) = omega (arith, ap length first) in k)

-- the label and what is left are no longer than the labels
pub label-le : (labels label next : List ℕ) (rest : Option (Bor (List ℕ)))
    → MatchOption rest (length label ≡ length labels) (λ r. (length label + 1 + length r.now ≡ length labels) × (r.now ≡ drop (length label + 1) labels))
    → MatchOption rest (next ≡ []) (λ r. next ≡ r.now) → length label + length next ≤ length labels
label-le labels label next None e is = omega (arith, e, ap length is)
label-le labels label next (Some x) e is = omega (arith, e.0, ap length is)

-- a label and its value, and what is left
pub label-turn : (labels label next : List ℕ) (rest : Option (Bor (List ℕ))) → label ≡ up_to 124 labels
    → MatchOption rest (length label ≡ length labels) (λ r. (length label + 1 + length r.now ≡ length labels) × (r.now ≡ drop (length label + 1) labels))
    → MatchOption rest (next ≡ []) (λ r. next ≡ r.now) → (values : List ℕ) (i : ℕ) → i < length values
    → labelled labels (drop i values) ≡ (label ++ decimal (get_or values i 0)) ++ labelled next (drop (i + 1) values)
unfolding labelled
label-turn labels label next rest first behind is values i h =
    ap (labelled labels) (drop-cons values i 0 h)
    ∙ ap₂ (λ (name rest : List ℕ). name ++ (decimal (get_or values i 0) ++ rest)) (sym first)
    (ap₂ labelled (sym (labels-left labels label next rest first behind is)) (ap (λ (k : ℕ). drop k values) (sym (add-one i))))
    ∙ sym (append_assoc label (decimal (get_or values i 0)) (labelled next (drop (i + 1) values)))

-- no value is left
pub label-end : (labels values : List ℕ) (i : ℕ) → length values ≤ i → labelled labels (drop i values) ≡ []
unfolding labelled
label-end labels values i h = ap (labelled labels) (drop_of_length-le values h)

-- the text alone, where there are no values
pub said-none : (labels values : List ℕ) → length values ≡ 0 → labels ≡ said labels values
said-none labels [] h = refl
said-none labels (n ∷ ns) h = absurd (omega arith)

-- values stand behind their labels
pub said-some : (labels values : List ℕ) → 0 < length values → labelled labels values ≡ said labels values
said-some labels [] h = absurd (omega arith)
said-some labels (n ∷ ns) h = refl

-- any kind from 2 on is a refusal
pub told-refused : (kind number : ℕ) (values : List ℕ) → 1 < kind → told_by kind number values ≡ refusal number values
told-refused zero number values h = absurd (omega arith)
told-refused (suc zero) number values h = absurd (omega arith)
told-refused (suc (suc kind)) number values h = refl

-- ---- lists

-- a number behind its space
pub spaced-turn : (xs : List ℕ) (i : ℕ) → i < length xs → spaced (drop i xs) ≡ ((32 ∷ []) ++ decimal (get_or xs i 0)) ++ spaced (drop (i + 1) xs)
unfolding spaced
spaced-turn xs i h =
    ap spaced (drop-cons xs i 0 h) ∙ ap (λ (k : ℕ). 32 ∷ (decimal (get_or xs i 0) ++ spaced (drop k xs))) (sym (add-one i))

-- no number is left
pub spaced-end : (xs : List ℕ) (i : ℕ) → length xs ≤ i → spaced (drop i xs) ≡ []
unfolding spaced
spaced-end xs i h = ap spaced (drop_of_length-le xs h)
