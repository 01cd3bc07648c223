-- The writes of a page's slots past the rules of sheet and page, which no slot's write tells anything about any more: what each tells, and what page and notes hold after those
-- of the first slots. Only private functions' contracts speak of these; that they are the single writes of `paper` is a law (proofs/Singly).
use Rattle.std.specs.Prelude.{◌≡◌, List, ℕ, zero, suc, ◌≤◌, length, get_or, set}
use Rattle.paper.specs.Page.{most_slots, page_after_write}
use Rattle.paper.specs.WholePage.{note}
use Rattle.paper.specs.Refusals.{Told}
use Rattle.paper.specs.Sheet.{Sheet}
use Rattle.paper.specs.declared.StuckCell.{StuckCell}
use Rattle.records.specs.Gather.{gather_of}
use Rattle.page.specs.Steps.{puts_admitted}

-- what the write of slot i tells
abbrev pub slot_told : Sheet → List StuckCell → List ℕ → ℕ → Told
slot_told s records messages i = puts_admitted s (gather_of i s.n records) (get_or messages i 0)

-- the page after the writes of the slots below i, by what they tell
unfoldable pub page_of : (ℕ → Told) → List ℕ → ℕ → List ℕ
page_of told page zero = page
page_of told page (suc i) = page_after_write (told i) (page_of told page i) i

-- and the notes
unfoldable pub notes_of : (ℕ → Told) → List ℕ → ℕ → List ℕ
notes_of told notes zero = notes
notes_of told notes (suc i) = set (notes_of told notes i) i (note (told i))

-- a page that may be written, with a message and a note for each slot
pub record Writable (page messages notes : List ℕ) : Type 0 where
  pub few : length page ≤ most_slots
  pub all-messages : length messages ≡ length page
  pub all-notes : length notes ≡ length page
