-- One record more changes what the slots of a run gather to at its own slot alone. For `gather_run`, whose loop has gathered the records that it passed, for all slots of the run at once.
-- Assumes nothing.
use mathlib.Core.Path.{◌≡◌, sym, ap, ◌∙◌}
use mathlib.Core.List.{List}
use Prim.Native.Nat.{ℕ, ◌+◌, ◌<◌}
use native.Mathlib.Decide.{ℕ_discrete}
use native.Mathlib.Omega.{arith}
use borrow.Author.Tests.{ne_eqb}
use lib.ListN.{length, get_or, take, set}
use lib.Seq.{get_or-set_same, get_or-set_other}
use Rattle.paper.specs.Page.{no_record}
use Rattle.paper.specs.declared.StuckCell.{StuckCell}
use Rattle.std.proofs.Common.{Result, Ok}
use Rattle.records.specs.Gather.{gather_of, next_of, nothing}
use Rattle.records.specs.declared.Gathered.{Gathered}
use Rattle.records.proofs.Gathers.{step_other, gathers-next}
use Rattle.records.specs.Runs.{run}

-- what the slots of the run that begins at base gather to, of the records before the i-th
abbrev pub Gathers : ℕ → ℕ → List StuckCell → List (Result Gathered ℕ) → ℕ → Type 0
Gathers base n ys all i = (j : ℕ) → j < run → get_or all j (Ok nothing) ≡ gather_of (base + j) n (take i ys)

-- a record of another slot is passed
passed : (slot n : ℕ) (ys : List StuckCell) (i : ℕ) → i < length ys → ((get_or ys i no_record).slot ≡ slot → ⊥)
    → gather_of slot n (take i ys) ≡ gather_of slot n (take (i + 1) ys)
passed slot n ys i h other =
    sym (step_other slot n (get_or ys i no_record) (ne_eqb (get_or ys i no_record).slot slot other) (gather_of slot n (take i ys))) ∙ gathers-next slot n ys i h

module _ (base n : ℕ) (ys : List StuckCell) (all : List (Result Gathered ℕ)) (i : ℕ) (h : i < length ys) (so : Gathers base n ys all i) where
  -- the next record is of no slot of the run
  pub none-gathers : ((j : ℕ) → j < run → base + j ≡ (get_or ys i no_record).slot → ⊥) → Gathers base n ys all (i + 1)
  none-gathers none j l = so j l ∙ passed (base + j) n ys i h (λ e. none j l (sym e))

  -- it is of the slot at a place of the run
  pub one-gathers : (at : ℕ) (g : Result Gathered ℕ) → at < run → at < length all → base + at ≡ (get_or ys i no_record).slot
      → g ≡ next_of (get_or ys i no_record).slot n (get_or all at (Ok nothing)) (get_or ys i no_record) → Gathers base n ys (set all at g) (i + 1)
  one-gathers at g l room own e j lj = go (ℕ_discrete j at)
    where
      go : Dec (j ≡ at) → get_or (set all at g) j (Ok nothing) ≡ gather_of (base + j) n (take (i + 1) ys)
      go (yes q) =
          ap (λ (m : ℕ). get_or (set all at g) m (Ok nothing)) q ∙ get_or-set_same all at g (Ok nothing) room ∙ e
          ∙ ap (λ (x : Result Gathered ℕ). next_of (get_or ys i no_record).slot n x (get_or ys i no_record)) (so at l)
          ∙ ap (λ (m : ℕ). next_of m n (gather_of (base + at) n (take i ys)) (get_or ys i no_record)) (sym own)
          ∙ gathers-next (base + at) n ys i h
          ∙ ap (λ (m : ℕ). gather_of (base + m) n (take (i + 1) ys)) (sym q)
      go (no q) =
          get_or-set_other all at j g (Ok nothing) q ∙ so j lj
          ∙ passed (base + j) n ys i h (λ p. q (omega (arith, own, p)))
