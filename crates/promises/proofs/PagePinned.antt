-- "For each public call, any two results allowed by its contract, memory included, are shown to be the same result": the calls on pages.
-- A contract says what is told of the result, and of a write also what the lent page holds after, and the lent notes; all else is lent by `&`. Assumes nothing.
use mathlib.Core.Path.{◌≡◌, sym, ◌∙◌}
use mathlib.Core.List.{List}
use Prim.Native.Nat.{ℕ}
use Rattle.paper.specs.Refusals.{written, reading, opening, outcome}
use Rattle.paper.specs.Sheet.{Sheet}
use Rattle.paper.specs.Page.{opens, page_writes, page_after_write, page_reads}
use Rattle.paper.specs.WholePage.{whole_writes, whole_page, whole_notes}
use Rattle.paper.specs.declared.Opening.{Opening}
use Rattle.paper.specs.declared.Outcome.{Outcome}
use Rattle.paper.specs.declared.StuckCell.{StuckCell}
use Rattle.paper.specs.declared.Written.{Written}
use Rattle.paper.specs.declared.Reading.{Reading}
use Rattle.promises.proofs.Pinned.{written_once, reading-once, opening-once, outcome-once}

-- the number
pub open-page-pinned : (s : Sheet) (a b : Opening) → opening a ≡ opens s → opening b ≡ opens s → a ≡ b
open-page-pinned s = opening-once (opens s)

module _ (s : Sheet) (number : ℕ) (page : List ℕ) (slot : ℕ) where
  -- the answer, and the page after
  pub page-write-pinned : (records : List StuckCell) (w : ℕ) (a b : Written) (after after' : List ℕ)
      → (written a ≡ page_writes s number page records slot w) × (after ≡ page_after_write (page_writes s number page records slot w) page slot)
      → (written b ≡ page_writes s number page records slot w) × (after' ≡ page_after_write (page_writes s number page records slot w) page slot)
      → (a ≡ b) × (after ≡ after')
  page-write-pinned records w a b after after' p q = (written_once (page_writes s number page records slot w) a b p.0 q.0, p.1 ∙ sym q.1)

  pub page-read-pinned : (radius : ℕ) (a b : Reading) → reading a ≡ page_reads s number page slot radius → reading b ≡ page_reads s number page slot radius → a ≡ b
  page-read-pinned radius = reading-once (page_reads s number page slot radius)

-- what `page_write_all`'s contract allows: an outcome, and page and notes after
pub record Wholes (s : Sheet) (number : ℕ) (page : List ℕ) (records : List StuckCell) (messages notes : List ℕ) (o : Outcome) (page' notes' : List ℕ) : Type 0 where
  pub told : outcome o ≡ whole_writes s number page records messages notes
  pub left-page : page' ≡ whole_page s number page records messages notes
  pub left-notes : notes' ≡ whole_notes s number page records messages notes

pub page-write-all-pinned : {s : Sheet} {number : ℕ} {page : List ℕ} {records : List StuckCell} {messages notes : List ℕ} {a b : Outcome} {p₁ n₁ p₂ n₂ : List ℕ}
    → Wholes s number page records messages notes a p₁ n₁ → Wholes s number page records messages notes b p₂ n₂ → (a ≡ b) × (p₁ ≡ p₂) × (n₁ ≡ n₂)
page-write-all-pinned x y = (outcome-once _ _ _ x.told y.told, x.left-page ∙ sym y.left-page, x.left-notes ∙ sym y.left-notes)
