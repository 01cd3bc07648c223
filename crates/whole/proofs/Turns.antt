-- Page and notes after the writes of the slots below i, slot after slot, by what was gathered for a run of slots. For the loops over a run and over runs. Assumes nothing.
use mathlib.Core.Path.{◌≡◌, sym, ap₂, ◌∙◌}
use mathlib.Core.List.{List}
use Prim.Native.Nat.{ℕ, ◌+◌, ◌-◌, ◌≤◌, ◌<◌}
use native.Mathlib.Numerals.{add-one}
use lib.ListN.{get_or, set}
use Rattle.paper.specs.Page.{page_after_write}
use Rattle.paper.specs.WholePage.{note}
use Rattle.paper.specs.Refusals.{Told}
use Rattle.paper.specs.Sheet.{Sheet}
use Rattle.std.proofs.Common.{Result, Ok}
use Rattle.records.specs.Gather.{nothing}
use Rattle.records.specs.declared.Gathered.{Gathered}
use Rattle.records.specs.Runs.{run}
use Rattle.page.specs.Steps.{puts_admitted}
use Rattle.whole.specs.Slots.{page_of, notes_of}

-- ---- one slot more

module _ (told : ℕ → Told) (start : List ℕ) where
  pub page-next : (i : ℕ) → page_of told start (i + 1) ≡ page_after_write (told i) (page_of told start i) i
  unfolding page_of
  page-next i = rw (add-one i)

  pub notes-next : (i : ℕ) → notes_of told start (i + 1) ≡ set (notes_of told start i) i (note (told i))
  unfolding notes_of
  notes-next i = rw (add-one i)

-- ---- a run, of whose slots `gathered` has what their records gather to

module _ (s : Sheet) (gathered : List (Result Gathered ℕ)) (messages : List ℕ) (base : ℕ) where
  -- what the write of slot i tells
  abbrev pub run_told : ℕ → Told
  run_told i = puts_admitted s (get_or gathered (i - base) (Ok nothing)) (get_or messages i 0)

  -- what the run's writes tell is `told`
  abbrev pub Tells : (ℕ → Told) → Type 0
  Tells told = (i : ℕ) → base ≤ i → i < base + run → run_told i ≡ told i

  -- what was `before` after the slots below base is `after` after those below i
  abbrev pub Goes : ((ℕ → Told) → List ℕ → ℕ → List ℕ) → List ℕ → List ℕ → ℕ → Type 0
  Goes of before after i = (told : ℕ → Told) → Tells told → (start : List ℕ) → before ≡ of told start base → after ≡ of told start i

  pub page-turn : (before page : List ℕ) (i : ℕ) → base ≤ i → i < base + run → Goes page_of before page i → Goes page_of before (page_after_write (run_told i) page i) (i + 1)
  page-turn before page i b l goes told tells start e =
      ap₂ (λ (t : Told) (p : List ℕ). page_after_write t p i) (tells i b l) (goes told tells start e) ∙ sym (page-next told start i)

  pub notes-turn : (before notes : List ℕ) (i : ℕ) → base ≤ i → i < base + run → Goes notes_of before notes i → Goes notes_of before (set notes i (note (run_told i))) (i + 1)
  notes-turn before notes i b l goes told tells start e =
      ap₂ (λ (t : Told) (p : List ℕ). set p i (note t)) (tells i b l) (goes told tells start e) ∙ sym (notes-next told start i)
