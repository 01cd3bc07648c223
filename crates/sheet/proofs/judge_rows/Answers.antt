-- `judge_rows` meets its contract: what each rule finds is what the definition finds, and the first to find decides.
use mathlib.Core.Path.{◌≡◌, refl, sym, ap, ◌∙◌, subst}
use mathlib.Core.List.{List}
use Prim.Native.Nat.{ℕ, ◌+◌}
use native.Mathlib.Omega.{arith}
use lib.ListN.{length}
use Rattle.paper.specs.First.{First, first}
use Rattle.paper.specs.Sheet.{Sheet, G, H, M, off, off_code, off_message, judged_rows}
use Rattle.rules.proofs.Rules.{stop-first, pass}
use Rattle.sheet.specs.Sound.{Shaped}
use Rattle.sheet.proofs.Tests.{found_in}
use Rattle.sheet.proofs.Verdicts.{part_length}
use Rattle.sheet.proofs.judge_rows.Goals as goal

module _ (s : Sheet) (shape : Shaped s) {gs others : List ℕ} {f : First} (own : gs ≡ G s) where
  -- what a rule finds among the rows of G, with the rows `checks`
  off-in : (wants : ℕ) {checks : List ℕ} → others ≡ checks → f ≡ first (length gs) (off wants gs others) → f ≡ first (s.k + s.l) (off wants (G s) checks)
  off-in wants h q =
      found_in (λ (xs : List ℕ). off wants xs others) gs own (part_length s.rows 0 (s.k + s.l) (omega (arith, shape.all-rows, shape.room))) q
      ∙ ap (λ (ys : List ℕ). first (s.k + s.l) (off wants (G s) ys)) h

  found-code : others ≡ H s → f ≡ first (length gs) (off 0 gs others) → f ≡ first (s.k + s.l) (off_code s)
  found-code = off-in 0

  found-message : others ≡ M s → f ≡ first (length gs) (off 1 gs others) → f ≡ first (s.k + s.l) (off_message s)
  found-message = off-in 1

pub returns-in-Some : goal.returns-in-Some
unfolding judged_rows
returns-in-Some c = rw (← c.sheet.view_is) (stop-first 2 _ c.find_stray.ensures c.in-Some.is)

pub returns-in-Some-find_off : goal.returns-in-Some-find_off
unfolding judged_rows
returns-in-Some-find_off c =
    let shape = subst Shaped (sym c.sheet.view_is) c.requires in
    rw (← c.sheet.view_is)
    (pass 2 _ c.find_stray.ensures 0 c.in_default.is
    (stop-first 3 _ (found-code _ shape c.part-gs.ensures c.part.ensures c.find_off.ensures) c.in-Some-find_off.is))

pub returns-in-Some-find_off-2 : goal.returns-in-Some-find_off-2
unfolding judged_rows
returns-in-Some-find_off-2 c =
    let shape = subst Shaped (sym c.sheet.view_is) c.requires in
    rw (← c.sheet.view_is)
    (pass 2 _ c.find_stray.ensures 0 c.in_default.is
    (pass 3 _ (found-code _ shape c.part-gs.ensures c.part.ensures c.find_off.ensures) 0 c.in_default-find_off.is
    (stop-first 4 _ (found-message _ shape c.part-gs.ensures c.part-2.ensures c.find_off-2.ensures) c.in-Some-find_off-2.is)))

pub returns : goal.returns
unfolding judged_rows
returns c =
    let shape = subst Shaped (sym c.sheet.view_is) c.requires in
    c.judge_sums.ensures
    ∙ rw (← c.sheet.view_is)
    (pass 2 _ c.find_stray.ensures 0 c.in_default.is
    (pass 3 _ (found-code _ shape c.part-gs.ensures c.part.ensures c.find_off.ensures) 0 c.in_default-find_off.is
    (pass 4 _ (found-message _ shape c.part-gs.ensures c.part-2.ensures c.find_off-2.ensures) 0 c.in_default-find_off-2.is refl)))
