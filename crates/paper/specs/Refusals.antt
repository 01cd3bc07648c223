-- "Where an answer is an enum, a definition gives this paper's number and values for each of its cases."
use Rattle.std.specs.Prelude.{Bool, true, false, List, [], ◌∷◌, ℕ, ◌+◌, Result, Ok, Err}
use Rattle.paper.specs.First.{First, nowhere, at}
use Rattle.paper.specs.declared.Refusal.{Refusal}
use Rattle.paper.specs.declared.Refusal.TheVariants.{Shape, Stray, OffCode, OffMessage, DependentG0, DependentH, Message, Stuck, NoWord, ReadWord, Limit, NoCodeword, Crowded, NoSlot, Record, Plate, OtherShape, Lengths}
use Rattle.paper.specs.declared.Admission.{Admission}
use Rattle.paper.specs.declared.Written.{Written}
use Rattle.paper.specs.declared.Reading.{Reading}
use Rattle.paper.specs.declared.MeasuredD0.{MeasuredD0}
use Rattle.paper.specs.declared.MeasuredD1.{MeasuredD1}
use Rattle.paper.specs.declared.Opening.{Opening}
use Rattle.paper.specs.declared.Outcome.{Outcome}

-- what a call tells: its values; for a measurement also "more than the cap" and its values; or a refusal's number and what is given with it
pub data Told : Type 0 where
  answer : List ℕ → Told
  more : List ℕ → Told
  refusal : ℕ → List ℕ → Told

-- a reason's number in the table "When the box says no", and what is given with it
pub record Reason : Type 0 where
  pub number : ℕ
  pub given : List ℕ

-- a reason with which nothing is given
abbrev pub bare : ℕ → Reason
bare number = record { number = number; given = [] }

-- a reason with which a row, a cell, a number tried or a record's place is given
abbrev pub giving : ℕ → ℕ → Reason
giving number value = record { number = number; given = value ∷ [] }

-- "When the box says no", and the "New refusals" of the change requests: each reason's number, and what is given with it
abbrev pub reason : Refusal → Reason
reason Shape = bare 1
reason (Stray row) = giving 2 row
reason (OffCode row) = giving 3 row
reason (OffMessage row) = giving 4 row
reason (DependentG0 row) = giving 5 row
reason (DependentH row) = giving 6 row
reason Message = bare 7
reason (Stuck cell) = giving 8 cell
reason NoWord = bare 9
reason (ReadWord cell) = giving 10 cell
reason Limit = bare 11
reason (NoCodeword tried) = giving 12 tried
reason Crowded = bare 13
reason NoSlot = bare 14
reason (Record place) = giving 15 place
reason Plate = bare 16
reason OtherShape = bare 24
reason Lengths = bare 25

-- "the refusal carries its reason"
abbrev pub refused : Refusal → Told
refused why = refusal (reason why).number (reason why).given

-- what a judgment tells that passes something on or stops it: nothing with it, or its refusal
abbrev pub verdict : {T : Type 0} → Result T Refusal → Told
verdict (Ok passed) = answer []
verdict (Err why) = refused why

-- what an admission tells
abbrev pub admission : Admission → Told
admission Admission.Admitted = answer []
admission (Admission.Refused why) = refused why

-- what a write tells: "the fitting word .. and that d"
abbrev pub written : Written → Told
written (Written.Word word d) = answer (word ∷ d ∷ [])
written (Written.Refused why) = refused why

-- what a read tells: "the message of y + z, z itself, and how many listed words were tried"
abbrev pub reading : Reading → Told
reading (Reading.Message message z tried) = answer (message ∷ z ∷ tried ∷ [])
reading (Reading.Refused why) = refused why

-- what a measurement of d0 tells: "the distance, or "more than the cap", and the number tried"
abbrev pub measured_d0 : MeasuredD0 → Told
measured_d0 (MeasuredD0.Distance d tried) = answer (d ∷ tried ∷ [])
measured_d0 (MeasuredD0.More tried) = more (tried ∷ [])
measured_d0 (MeasuredD0.Refused why) = refused why

-- what a measurement of d1 tells: it "also answers the radius to print on the plate"
abbrev pub measured_d1 : MeasuredD1 → Told
measured_d1 (MeasuredD1.Distance d tried radius) = answer (d ∷ tried ∷ radius ∷ [])
measured_d1 (MeasuredD1.More tried radius) = more (tried ∷ radius ∷ [])
measured_d1 (MeasuredD1.Refused why) = refused why

-- what opening a page tells: its plate number
abbrev pub opening : Opening → Told
opening (Opening.Number number) = answer (number ∷ [])
opening (Opening.Refused why) = refused why

-- what a call tells whose answer stands in the rooms that it was lent
abbrev pub outcome : Outcome → Told
outcome Outcome.Done = answer []
outcome (Outcome.Refused why) = refused why

-- what such a room holds after a call that told this, `new` being what an answer puts there: "A refused call, here and below, changes nothing lent"
abbrev pub leaves : Told → List ℕ → List ℕ → List ℕ
leaves (answer values) new old = new
leaves (more values) new old = old
leaves (refusal number given) new old = old

-- "Each refusal is given exactly when its reason holds and no earlier one in the call's order does": a rule that holds passes to the next
abbrev pub unless : Bool → ℕ → Told → Told
unless true number next = next
unless false number next = refusal number []

-- the same for a rule that is broken at a place: the first such place, counted from `base`, is given with the refusal
abbrev pub unless_at : First → ℕ → ℕ → Told → Told
unless_at nowhere number base next = next
unless_at (at i) number base next = refusal number ((base + i) ∷ [])
