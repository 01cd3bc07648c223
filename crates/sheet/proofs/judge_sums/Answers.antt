-- `judge_sums` meets its contract: what is found in each part is what the definition finds, and the first to find decides.
use mathlib.Core.Path.{◌≡◌, refl, sym, ap, ◌∙◌, subst}
use Prim.Native.Nat.{ℕ, ◌+◌}
use native.Mathlib.Omega.{arith}
use lib.ListN.{length}
use mathlib.Core.List.{List}
use Rattle.paper.specs.First.{First, first}
use Rattle.paper.specs.Sheet.{Sheet, r, G0, H, dependent, judged_sums}
use Rattle.words.specs.Places.{as_first}
use Rattle.words.proofs.Firsts.{first-at}
use Rattle.rules.proofs.Rules.{stop, pass}
use Rattle.sheet.specs.Sound.{Shaped}
use Rattle.sheet.proofs.Tests.{found_in}
use Rattle.sheet.proofs.Verdicts.{part_length}
use Rattle.sheet.proofs.judge_sums.Goals as goal

module _ (s : Sheet) (shape : Shaped s) {part : List ℕ} {f : First} where
  -- what is found in the rows of G0, and in those of H
  found-G0 : part ≡ G0 s → f ≡ first (length part) (dependent part) → f ≡ first s.l (dependent (G0 s))
  found-G0 e q = found_in dependent part e (part_length s.rows s.k s.l (omega (arith, shape.all-rows, shape.room))) q

  found-H : part ≡ H s → f ≡ first (length part) (dependent part) → f ≡ first (r s) (dependent (H s))
  found-H e q = found_in dependent part e (part_length s.rows (s.k + s.l) (r s) (omega (arith, shape.all-rows, shape.room))) q

pub returns-in-Some : goal.returns-in-Some
unfolding judged_sums
returns-in-Some c =
    let shape = subst Shaped (sym c.sheet.view_is) c.requires in
    rw (← c.sheet.view_is) (stop 5 _ (found-G0 _ shape c.part.ensures c.first_dependent.ensures) _ c.in-Some.is)

pub returns-in-Some-first_dependent : goal.returns-in-Some-first_dependent
unfolding judged_sums
returns-in-Some-first_dependent c =
    let shape = subst Shaped (sym c.sheet.view_is) c.requires in
    rw (← c.sheet.view_is)
    (pass 5 _ (found-G0 _ shape c.part.ensures c.first_dependent.ensures) _ c.in_default.is
    (stop 6 _ (found-H _ shape c.part-2.ensures c.first_dependent-2.ensures) _ c.in-Some-first_dependent.is))

pub returns : goal.returns
unfolding judged_sums
returns c =
    let shape = subst Shaped (sym c.sheet.view_is) c.requires in
    rw (← c.sheet.view_is)
    (pass 5 _ (found-G0 _ shape c.part.ensures c.first_dependent.ensures) _ c.in_default.is
    (pass 6 _ (found-H _ shape c.part-2.ensures c.first_dependent-2.ensures) _ c.in_default-first_dependent.is refl))

pub overflow_add-result : goal.overflow_add-result
overflow_add-result c =
    let shape = subst Shaped (sym c.sheet.view_is) c.requires in
    let e = found-G0 _ shape c.part.ensures c.first_dependent.ensures in
    omega (arith, shape.few-cells, shape.room, (first-at _ _ _ (sym e ∙ ap as_first c.in-Some.is)).0)

pub overflow_add-result-in-Some-first_dependent : goal.overflow_add-result-in-Some-first_dependent
overflow_add-result-in-Some-first_dependent c =
    let shape = subst Shaped (sym c.sheet.view_is) c.requires in
    let e = found-H _ shape c.part-2.ensures c.first_dependent-2.ensures in
    omega (arith, shape.few-cells, shape.room, (first-at _ _ _ (sym e ∙ ap as_first c.in-Some-first_dependent.is)).0)
