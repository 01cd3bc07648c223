-- Answers: what a call told, behind the labels of its verb, and lists behind their names.
use Rattle.std.specs.Prelude.{List, [], ◌∷◌, ◌++◌, ℕ, suc, length, drop}
use Rattle.paper.specs.Refusals.{Told, answer, more, refusal}
use Rattle.text.specs.Bytes.{bytes}
use Rattle.text.specs.Tokens.{up_to}
use Rattle.text.specs.Puts.{decimal}

-- each value behind its label; byte 124, a bar, ends a label
unfoldable pub labelled : List ℕ → List ℕ → List ℕ
unfolding up_to
labelled labels [] = []
labelled labels (n ∷ ns) = up_to 124 labels ++ (decimal n ++ labelled (drop (suc (length (up_to 124 labels))) labels) ns)

-- the same; the text alone if there are no values
abbrev pub said : List ℕ → List ℕ → List ℕ
said labels [] = labels
said labels (n ∷ ns) = labelled labels (n ∷ ns)

-- what a call tells: its values behind the labels of its verb, "more than the cap", or a refusal's number and place
abbrev pub spoken : List ℕ → Told → List ℕ
spoken labels (answer ns) = said labels ns
spoken labels (more ns) = said (bytes "more tried | radius ") ns
spoken labels (refusal number place) = said (bytes "refused | ") (number ∷ place)

-- numbers, each behind a space (32)
unfoldable pub spaced : List ℕ → List ℕ
spaced [] = []
spaced (x ∷ xs) = 32 ∷ (decimal x ++ spaced xs)

-- "LIST count x1 .. xcount", behind its name
abbrev pub listed : List ℕ → List ℕ → List ℕ
listed name xs = name ++ (decimal (length xs) ++ spaced xs)
