-- "For each public call, any two results allowed by its contract .. are shown to be the same result."
-- A contract of the store says what is told of the result, and what is told is one-to-one. No call writes to lent memory: `rows` is lent by `&`.
use mathlib.Core.Path.{◌≡◌, refl, sym, ap, ◌∙◌}
use mathlib.Core.List.{List}
use Prim.Native.Nat.{ℕ}
use lib.ListN.{get_or}
use Rattle.paper.specs.Refusals.{Told, answer, more, refusal, admission, written, reading, measured_d0, measured_d1, opening, outcome}
use Rattle.paper.specs.Sheet.{Sheet, admits}
use Rattle.paper.specs.Writing.{writes}
use Rattle.paper.specs.Reading.{reads}
use Rattle.paper.specs.Plate.{measures_d0, measures_d1}
use Rattle.paper.specs.declared.Admission.{Admission}
use Rattle.paper.specs.declared.Written.{Written}
use Rattle.paper.specs.declared.Reading.{Reading}
use Rattle.paper.specs.declared.MeasuredD0.{MeasuredD0}
use Rattle.paper.specs.declared.MeasuredD1.{MeasuredD1}
use Rattle.paper.specs.declared.Opening.{Opening}
use Rattle.paper.specs.declared.Outcome.{Outcome}
use Rattle.rules.proofs.Reasons.{reason_of, told_back}

-- a result can be told back from what is told of it
abbrev at : List ℕ → ℕ → ℕ
at values i = get_or values i 0

-- two results of which the same is told are the same
same : {A : Type 0} (tell : A → Told) (back : Told → A) → ((a : A) → back (tell a) ≡ a) → (t : Told) (a b : A) → tell a ≡ t → tell b ≡ t → a ≡ b
same tell back h t a b p q = sym (h a) ∙ ap back (p ∙ sym q) ∙ h b

admission-back : Told → Admission
admission-back (answer values) = Admission.Admitted
admission-back (more values) = Admission.Admitted
admission-back (refusal number given) = Admission.Refused (reason_of number given)

written_back : Told → Written
written_back (answer values) = Written.Word (at values 0) (at values 1)
written_back (more values) = Written.Word 0 0
written_back (refusal number given) = Written.Refused (reason_of number given)

reading-back : Told → Reading
reading-back (answer values) = Reading.Message (at values 0) (at values 1) (at values 2)
reading-back (more values) = Reading.Message 0 0 0
reading-back (refusal number given) = Reading.Refused (reason_of number given)

measured_d0-back : Told → MeasuredD0
measured_d0-back (answer values) = MeasuredD0.Distance (at values 0) (at values 1)
measured_d0-back (more values) = MeasuredD0.More (at values 0)
measured_d0-back (refusal number given) = MeasuredD0.Refused (reason_of number given)

measured_d1-back : Told → MeasuredD1
measured_d1-back (answer values) = MeasuredD1.Distance (at values 0) (at values 1) (at values 2)
measured_d1-back (more values) = MeasuredD1.More (at values 0) (at values 1)
measured_d1-back (refusal number given) = MeasuredD1.Refused (reason_of number given)

opening-back : Told → Opening
opening-back (answer values) = Opening.Number (at values 0)
opening-back (more values) = Opening.Number 0
opening-back (refusal number given) = Opening.Refused (reason_of number given)

outcome-back : Told → Outcome
outcome-back (answer values) = Outcome.Done
outcome-back (more values) = Outcome.Done
outcome-back (refusal number given) = Outcome.Refused (reason_of number given)

admission-told : (a : Admission) → admission-back (admission a) ≡ a
unfolding admission-back
admission-told Admission.Admitted = refl
admission-told (Admission.Refused why) = ap Admission.Refused (told_back why)

written-told : (a : Written) → written_back (written a) ≡ a
unfolding written_back
written-told (Written.Word word d) = refl
written-told (Written.Refused why) = ap Written.Refused (told_back why)

reading-told : (a : Reading) → reading-back (reading a) ≡ a
unfolding reading-back
reading-told (Reading.Message message z tried) = refl
reading-told (Reading.Refused why) = ap Reading.Refused (told_back why)

opening-told : (a : Opening) → opening-back (opening a) ≡ a
unfolding opening-back
opening-told (Opening.Number number) = refl
opening-told (Opening.Refused why) = ap Opening.Refused (told_back why)

outcome-told : (a : Outcome) → outcome-back (outcome a) ≡ a
unfolding outcome-back
outcome-told Outcome.Done = refl
outcome-told (Outcome.Refused why) = ap Outcome.Refused (told_back why)

-- so for writing, reading, opening and calls that answer in lent rooms, whatever is told
pub written_once : (t : Told) (a b : Written) → written a ≡ t → written b ≡ t → a ≡ b
written_once = same written written_back written-told

pub reading-once : (t : Told) (a b : Reading) → reading a ≡ t → reading b ≡ t → a ≡ b
reading-once = same reading reading-back reading-told

pub opening-once : (t : Told) (a b : Opening) → opening a ≡ t → opening b ≡ t → a ≡ b
opening-once = same opening opening-back opening-told

pub outcome-once : (t : Told) (a b : Outcome) → outcome a ≡ t → outcome b ≡ t → a ≡ b
outcome-once = same outcome outcome-back outcome-told

measured_d0-told : (a : MeasuredD0) → measured_d0-back (measured_d0 a) ≡ a
unfolding measured_d0-back
measured_d0-told (MeasuredD0.Distance d tried) = refl
measured_d0-told (MeasuredD0.More tried) = refl
measured_d0-told (MeasuredD0.Refused why) = ap MeasuredD0.Refused (told_back why)

measured_d1-told : (a : MeasuredD1) → measured_d1-back (measured_d1 a) ≡ a
unfolding measured_d1-back
measured_d1-told (MeasuredD1.Distance d tried radius) = refl
measured_d1-told (MeasuredD1.More tried radius) = refl
measured_d1-told (MeasuredD1.Refused why) = ap MeasuredD1.Refused (told_back why)

-- ---- the five calls

module _ (s : Sheet) where
  pub admit-pinned : (a b : Admission) → admission a ≡ admits s → admission b ≡ admits s → a ≡ b
  admit-pinned = same admission admission-back admission-told (admits s)

  pub write-pinned : (message stuck levels : ℕ) (a b : Written) → written a ≡ writes s message stuck levels → written b ≡ writes s message stuck levels → a ≡ b
  write-pinned message stuck levels = written_once (writes s message stuck levels)

  pub read-pinned : (y radius : ℕ) (a b : Reading) → reading a ≡ reads s y radius → reading b ≡ reads s y radius → a ≡ b
  read-pinned y radius = reading-once (reads s y radius)

  pub measure-d0-pinned : (cap : ℕ) (a b : MeasuredD0) → measured_d0 a ≡ measures_d0 s cap → measured_d0 b ≡ measures_d0 s cap → a ≡ b
  measure-d0-pinned cap = same measured_d0 measured_d0-back measured_d0-told (measures_d0 s cap)

  pub measure-d1-pinned : (cap : ℕ) (a b : MeasuredD1) → measured_d1 a ≡ measures_d1 s cap → measured_d1 b ≡ measures_d1 s cap → a ≡ b
  measure-d1-pinned cap = same measured_d1 measured_d1-back measured_d1-told (measures_d1 s cap)
