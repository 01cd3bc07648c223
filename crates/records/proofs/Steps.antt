-- One record more, by the tests in the order in which the code makes them: whether it breaks the rule, and what is gathered then.
-- For `step`. Assumes nothing.
use mathlib.Core.Path.{◌≡◌, refl, subst}
use mathlib.Core.Bool.{Bool, true, false, not, ◌||◌}
use Prim.Native.Nat.{ℕ, ◌≤◌, ◌<◌}
use borrow.Author.Tests.{eq-eqb, ne_eqb, le-leb, lt-leb, leb-false}
use lib.Dec.{T, eqb, leb}
use Rattle.std.proofs.Common.{Ok, Err}
use Rattle.paper.specs.Words.{width, cell}
use Rattle.paper.specs.declared.StuckCell.{StuckCell}
use Rattle.records.specs.declared.Gathered.{Gathered}
use Rattle.records.specs.Gather.{spoils, joined, step_of, next_of}

module _ (n : ℕ) (g : Gathered) (r : StuckCell) where
  -- its cell is at n or above, or at the width or above; its level is 2 or more
  pub far : n ≤ r.cell → true ≡ spoils n g r
  far h = rw (le-leb n r.cell h)

  pub over : r.cell < n → width ≤ r.cell → true ≡ spoils n g r
  over l h = rw (lt-leb n r.cell l, le-leb width r.cell h)

  pub high : r.cell < n → r.cell < width → 2 ≤ r.level → true ≡ spoils n g r
  high l w h = rw (lt-leb n r.cell l, lt-leb width r.cell w, le-leb 2 r.level h)

  -- past the three: at a cell that is stuck already the level decides
  pub held : r.cell < n → r.cell < width → r.level < 2 → cell g.mask r.cell ≡ 1 → not (eqb (cell g.levels r.cell) r.level) ≡ spoils n g r
  held l w h m = rw (lt-leb n r.cell l, lt-leb width r.cell w, lt-leb 2 r.level h, eq-eqb (cell g.mask r.cell) 1 m)

  -- at another cell nothing does
  pub free : r.cell < n → r.cell < width → r.level < 2 → (cell g.mask r.cell ≡ 1 → ⊥) → eqb (cell g.mask r.cell) 1 ≡ spoils n g r
  free l w h m = rw (lt-leb n r.cell l, lt-leb width r.cell w, lt-leb 2 r.level h, ne_eqb (cell g.mask r.cell) 1 m)

  -- a record that keeps the rule has a cell of the machine's word and a level of 0 or 1
  pub sound : spoils n g r ≡ false → (r.cell < width) × (r.level < 2)
  sound q = go (leb n r.cell) (leb width r.cell) (leb 2 r.level) _ refl refl q
    where
      go : (a b c d : Bool) → leb width r.cell ≡ b → leb 2 r.level ≡ c → a || (b || (c || d)) ≡ false → (r.cell < width) × (r.level < 2)
      go true b c d h k e = absurd (subst T e tt)
      go false true c d h k e = absurd (subst T e tt)
      go false false true d h k e = absurd (subst T e tt)
      go false false false d h k e = (leb-false width r.cell h, leb-false 2 r.level k)

-- behind a record that breaks the rule nothing changes
pub stays : (slot n : ℕ) (r : StuckCell) (i : ℕ) → Err i ≡ next_of slot n (Err i) r
stays slot n r i = refl

module _ (slot n : ℕ) (g : Gathered) (r : StuckCell) where
  -- nor does at a record of another slot
  pub passes : (r.slot ≡ slot → ⊥) → Ok g ≡ step_of slot n g r
  unfolding step_of
  passes o = rw (ne_eqb r.slot slot o)

  -- a record of the slot either breaks the rule or is gathered
  pub breaks-off : r.slot ≡ slot → spoils n g r ≡ true → Err g.place ≡ step_of slot n g r
  unfolding step_of
  breaks-off o e = rw (eq-eqb r.slot slot o, e)

  pub joins : r.slot ≡ slot → spoils n g r ≡ false → Ok (joined g r) ≡ step_of slot n g r
  unfolding step_of
  joins o e = rw (eq-eqb r.slot slot o, e)
