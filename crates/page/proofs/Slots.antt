-- What the records of one slot gather to never breaks rule 8, so a slot is written by 15, 7 and 9 alone: the code's steps tell what the definition tells.
-- For `page_write`. Assumes nothing.
use mathlib.Core.Path.{◌≡◌, sym, ap}
use mathlib.Core.Bool.{◌&&◌}
use mathlib.Core.List.{List}
use Prim.Native.Nat.{ℕ, min}
use native.Mathlib.Nat.{zero-add}
use native.Mathlib.Omega.{arith}
use lib.Dec.{ltb}
use lib.ListN.{length}
use Rattle.paper.specs.First.{First, nowhere, at}
use Rattle.paper.specs.Page.{records_of, first_broken, few_slots, few_records, slot_writes, page_writes}
use Rattle.paper.specs.Refusals.{Told, unless}
use Rattle.paper.specs.Sheet.{Sheet}
use Rattle.paper.specs.Words.{width}
use Rattle.paper.specs.Writing.{writes_admitted}
use Rattle.paper.specs.declared.StuckCell.{StuckCell}
use Rattle.records.specs.Gather.{gathered_at, gather_of}
use Rattle.records.proofs.Said.{unbroken-stuck}
use Rattle.sheet.specs.Sound.{Sound}
use Rattle.opening.proofs.Judging.{alike-when-sound}
use Rattle.writing.proofs.Breaches.{stuck-passes}
use Rattle.page.specs.Steps.{puts_admitted, writes_with}

-- a slot's records rs, on a sheet that is sound
module _ (s : Sheet) (rs : List StuckCell) (w : ℕ) where
  puts-at : (f : First) → first_broken s.n rs ≡ f → puts_admitted s (gathered_at f rs) w ≡ slot_writes s rs w
  unfolding puts_admitted slot_writes writes_admitted
  puts-at nowhere e = rw (e, stuck-passes s _ _ (unbroken-stuck s rs e))
  puts-at (at i) e = rw (e, zero-add i)

-- what the records of a slot gather to is written as the definition says
pub puts-slot : (s : Sheet) → Sound s → (records : List StuckCell) (slot w : ℕ)
    → puts_admitted s (gather_of slot s.n records) w ≡ slot_writes s (records_of slot records) w
unfolding gather_of
puts-slot s ok records slot w =
    let m : min s.n width ≡ s.n = omega (arith, ok.shape.few-cells) in
    puts-at s (records_of slot records) w _ (ap (λ (n : ℕ). first_broken n (records_of slot records)) (sym m))

pub with-gathered : (s : Sheet) (number : ℕ) (page : List ℕ) (records : List StuckCell) (slot w : ℕ)
    → writes_with s number page (length records) (gather_of slot s.n records) slot w ≡ page_writes s number page records slot w
unfolding writes_with page_writes
with-gathered s number page records slot w =
    alike-when-sound s number (few_slots page && few_records records) _ _ (λ ok. ap (λ (t : Told). unless (ltb slot (length page)) 14 t) (puts-slot s ok records slot w))
