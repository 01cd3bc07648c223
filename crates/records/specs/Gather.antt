-- What the records of one slot gather to, as the code has it: whole, and record by record.
use Rattle.std.specs.Prelude.{Bool, cond, not, ◌&&◌, ◌||◌, List, ℕ, ◌+◌, ◌*◌, ◌^◌, Result, Ok, Err, min, eqb, leb, length}
use Rattle.std.specs.Int.Bits.{bit_or}
use Rattle.paper.specs.First.{First, nowhere, at}
use Rattle.paper.specs.Words.{width, cell}
use Rattle.paper.specs.Page.{records_of, first_broken, stuck_by, levels_by}
use Rattle.paper.specs.declared.StuckCell.{StuckCell}
use Rattle.records.specs.declared.Gathered.{Gathered}

-- what a slot's records rs say together
abbrev pub said_by : List StuckCell → Gathered
said_by rs = record { place = length rs; mask = stuck_by rs; levels = levels_by rs }

-- what they gather to, from the place of the first that breaks the rule
abbrev pub gathered_at : First → List StuckCell → Result Gathered ℕ
gathered_at nowhere rs = Ok (said_by rs)
gathered_at (at i) rs = Err i

-- what no records say
abbrev pub nothing : Gathered
nothing = record { place = 0; mask = 0; levels = 0 }

-- what the records of a slot gather to over n cells. A cell at the width or above is no cell of a machine's word, whatever n is: no sheet with so many is admitted
unfoldable pub gather_of : ℕ → ℕ → List StuckCell → Result Gathered ℕ
gather_of slot n records = gathered_at (first_broken (min n width) (records_of slot records)) (records_of slot records)

-- ---- the same record by record: what one more record makes of what was gathered

-- the record breaks the rule, by what was gathered before it
abbrev pub spoils : ℕ → Gathered → StuckCell → Bool
spoils n g r =
    leb n r.cell || (leb width r.cell || (leb 2 r.level || (eqb (cell g.mask r.cell) 1 && not (eqb (cell g.levels r.cell) r.level))))

-- what is gathered with a record that keeps the rule
abbrev pub joined : Gathered → StuckCell → Gathered
joined g r = record { place = g.place + 1; mask = bit_or g.mask (2 ^ r.cell); levels = bit_or g.levels (r.level * 2 ^ r.cell) }

-- a record of another slot changes nothing
unfoldable pub step_of : ℕ → ℕ → Gathered → StuckCell → Result Gathered ℕ
step_of slot n g r = cond (eqb r.slot slot) (cond (spoils n g r) (Err g.place) (Ok (joined g r))) (Ok g)

-- and behind the first that breaks the rule nothing changes
abbrev pub next_of : ℕ → ℕ → Result Gathered ℕ → StuckCell → Result Gathered ℕ
next_of slot n (Ok g) r = step_of slot n g r
next_of slot n (Err i) r = Err i
