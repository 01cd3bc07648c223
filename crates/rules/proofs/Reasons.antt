-- A reason can be told back from its number and what is given with it. So what is told of a refusal says which reason it was.
-- For pinning the calls' results. Assumes nothing.
use mathlib.Core.Path.{◌≡◌, refl}
use mathlib.Core.List.{List, [], ◌∷◌}
use Prim.Native.Nat.{ℕ}
use lib.ListN.{get_or}
use Rattle.paper.specs.Refusals.{reason}
use Rattle.paper.specs.declared.Refusal.{Refusal}
use Rattle.paper.specs.declared.Refusal.TheVariants.{Shape, Stray, OffCode, OffMessage, DependentG0, DependentH, Message, Stuck, NoWord, ReadWord, Limit, NoCodeword, Crowded, NoSlot, Record, Plate, OtherShape, Lengths}

-- the reasons by their numbers, from 0 on; the first stands in for a number that none has
reasons : ℕ → List Refusal
reasons given =
    Shape ∷ Shape ∷ Stray given ∷ OffCode given ∷ OffMessage given ∷ DependentG0 given ∷ DependentH given ∷ Message ∷ Stuck given ∷ NoWord
    ∷ ReadWord given ∷ Limit ∷ NoCodeword given ∷ Crowded ∷ NoSlot ∷ Record given ∷ Plate ∷ Shape ∷ Shape ∷ Shape ∷ Shape ∷ Shape ∷ Shape ∷ Shape
    ∷ OtherShape ∷ Lengths ∷ []

-- the reason of a number and of what is given with it
pub reason_of : ℕ → List ℕ → Refusal
reason_of number given = get_or (reasons (get_or given 0 0)) number Shape

pub told_back : (why : Refusal) → reason_of (reason why).number (reason why).given ≡ why
unfolding reasons reason_of
told_back Shape = refl
told_back (Stray row) = refl
told_back (OffCode row) = refl
told_back (OffMessage row) = refl
told_back (DependentG0 row) = refl
told_back (DependentH row) = refl
told_back Message = refl
told_back (Stuck cell) = refl
told_back NoWord = refl
told_back (ReadWord cell) = refl
told_back Limit = refl
told_back (NoCodeword tried) = refl
told_back Crowded = refl
told_back NoSlot = refl
told_back (Record place) = refl
told_back Plate = refl
told_back OtherShape = refl
told_back Lengths = refl
