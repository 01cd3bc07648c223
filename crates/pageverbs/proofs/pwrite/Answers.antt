-- `pwrite` meets its contract: what was told, and the page behind it.
-- Where there are too many slots the line's own page is said: nothing was written.
use mathlib.Core.Path.{◌≡◌, ap, ◌∙◌}
use mathlib.Core.List.{List, ◌++◌}
use Prim.Native.Nat.{ℕ, ◌+◌, ◌≤◌, min}
use native.Mathlib.Omega.{arith}
use lib.ListN.{length, take, drop}
use lib.Seq.{length-take-le, take_all, take_at}
use Rattle.paper.specs.Page.{most_slots, page_after_write}
use Rattle.text.specs.Bytes.{bytes}
use Rattle.text.proofs.Puts.{put-text, put-join}
use Rattle.lines.specs.Arguments.{at, sheet_in, arg}
use Rattle.lines.specs.Shapes.{Stands}
use Rattle.answers.specs.Answers.{spoken, listed}
use Rattle.rooms.specs.Lent.{room_slots, page_at, page_in, records_in, records_end}
use Rattle.rooms.proofs.Lists.{words-clipped, page-slots}
use Rattle.pageverbs.specs.Pages.{page_written, page_left}
use Rattle.pageverbs.proofs.Crowded.{crowded}
use Rattle.pageverbs.proofs.pwrite.Goals as goal

-- the page has the slots that the line says
slots : (ns : List ℕ) → Stands (bytes "nnnLnLRnw") 0 ns → length (page_in ns) ≡ at ns (page_at ns)
slots ns h = page-slots ns h.4.4.4.4.4.2

-- the copy is as much of the page as the room holds
copied : (ns copy : List ℕ) (held : ℕ) → held ≡ min (at ns (page_at ns)) room_slots → take held copy ≡ take held (drop (page_at ns + 1) ns)
    → take held copy ≡ take room_slots (page_in ns)
copied ns copy held e t = t ∙ words-clipped held (at ns (page_at ns)) room_slots (page_at ns + 1) ns e

-- a copy of the whole page is left as the page is, where it stood
left : (ns copy page rest : List ℕ) (held : ℕ) → length (page_in ns) ≡ at ns (page_at ns) → at ns (page_at ns) ≤ most_slots → held ≤ length copy
    → take held copy ≡ take room_slots (page_in ns) → length page ≡ length (take held copy)
    → page ≡ page_after_write (page_written ns) (take held copy) (at ns (records_end ns)) → take held (page ++ rest) ≡ page_left ns
left ns copy page rest held s few fits t same is =
    take_at page rest held (same ∙ length-take-le held copy fits) ∙ is
    ∙ ap (λ (p : List ℕ). page_after_write (page_written ns) p (at ns (records_end ns))) (t ∙ take_all room_slots (page_in ns) (omega arith))

pub write_page-told-requires-clause-page_value : goal.write_page-told-requires-clause-page_value
write_page-told-requires-clause-page_value c =
    copied c.args.ns.now c.copy_page-page.result c.min-held.result c.min-held.ensures c.copy_page-page.ensures

pub returns-then-few-clause-put : goal.returns-then-few-clause-put
returns-then-few-clause-put c =
    let ns = c.args.ns.now in
    let held = c.min-held.result in
    let copy = copied ns c.copy_page-page.result held c.min-held.ensures c.copy_page-page.ensures in
    let same =
    left ns c.copy_page-page.result c.write_page-told.new.page _ held (slots ns c.requires.stands) c.if-few.true
    (omega (arith, c.min-held.ensures)) copy c.write_page-told.auto.page c.write_page-told.ensures.page_after in
    put-join (put-text (ap (spoken (bytes "word | d ")) c.write_page-told.ensures.result_value) c.say-said.ensures.put)
    (put-text (ap (listed (bytes " page ")) same) c.say_list.ensures.put)

pub returns-else-few-clause-put : goal.returns-else-few-clause-put
returns-else-few-clause-put c =
    let ns = c.args.ns.now in
    let s = slots ns c.requires.stands in
    let same = crowded (sheet_in ns) (arg ns 0) (at ns (records_end ns)) (at ns (records_end ns + 1)) (page_in ns) (records_in ns) (omega (arith, s)) in
    put-join (put-text (ap (spoken (bytes "word | d ")) c.write_page-told.ensures.result_value) c.say-said.ensures.put)
    (put-text (ap (listed (bytes " page ")) same) c.say_list-else-few.ensures.put)
