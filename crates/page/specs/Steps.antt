-- What a write of a slot tells in the steps in which the code finds it, for anything gathered. Only private functions' contracts speak of these.
use Rattle.std.specs.Prelude.{◌&&◌, List, [], ◌∷◌, ℕ, Result, Ok, Err, leb, ltb, length}
use Rattle.paper.specs.Page.{most_records, few_slots, paged}
use Rattle.paper.specs.Refusals.{Told, refusal, unless}
use Rattle.paper.specs.Sheet.{Sheet}
use Rattle.paper.specs.Writing.{writes_admitted}
use Rattle.records.specs.declared.Gathered.{Gathered}

-- 15, then the writer on an admitted sheet, with its 8, which what records gather to never breaks
unfoldable pub puts_admitted : Sheet → Result Gathered ℕ → ℕ → Told
unfolding writes_admitted
puts_admitted s (Err place) w = refusal 15 (place ∷ [])
puts_admitted s (Ok g) w = writes_admitted s w g.mask g.levels

-- from the sheet's rules on
unfoldable pub writes_with : Sheet → ℕ → List ℕ → ℕ → Result Gathered ℕ → ℕ → ℕ → Told
unfolding paged puts_admitted
writes_with s number page count g slot w =
    paged s number (few_slots page && leb count most_records) (unless (ltb slot (length page)) 14 (puts_admitted s g w))
