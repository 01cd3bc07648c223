-- `write_in` meets its contract: what was told, and the page and the notes behind it.
-- Where there are too many slots the line's own page is said: nothing was written.
use mathlib.Core.Path.{◌≡◌, sym, ap, ap₂, ◌∙◌}
use mathlib.Core.List.{List}
use Prim.Native.Nat.{ℕ, ◌+◌, ◌≤◌}
use borrow.Author.Tests.{lt-leb}
use native.Mathlib.Omega.{arith}
use lib.ListN.{length, take, length-take}
use Rattle.paper.specs.Page.{most_slots}
use Rattle.paper.specs.Refusals.{Told}
use Rattle.text.specs.Bytes.{bytes}
use Rattle.text.proofs.Puts.{put-text}
use Rattle.lines.specs.Arguments.{sheet_in, arg}
use Rattle.lines.specs.Shapes.{Stands}
use Rattle.whole.proofs.Clipped.{crowded-page}
use Rattle.rooms.specs.Lent.{room_slots, page_in, records_in}
use Rattle.rooms.proofs.Lists.{page-slots}
use Rattle.wholeverbs.specs.Wholes.{messages_in, notes_in, whole_text}
use Rattle.wholeverbs.proofs.write_in.Goals as goal

-- the same told, and the same in page and notes
same_text : {t u : Told} {p p' q q' : List ℕ} → t ≡ u → p ≡ p' → q ≡ q' → whole_text t p q ≡ whole_text u p' q'
same_text {t} {u} {p} {p'} {q} {q'} a b c = ap₂ (λ (v : Told) (x : List ℕ). whole_text v x q) a b ∙ ap (whole_text u p') c

-- the copy of the page is cut at the room's size, and the page has fewer slots than the line has numbers
slots : (ns page : List ℕ) → Stands (bytes "nnnLnLRLmw") 0 ns → page ≡ take room_slots (page_in ns)
    → (length page ≡ length (take room_slots (page_in ns))) × (length (page_in ns) + 6 ≤ length ns)
slots ns page h e = (ap length e, omega (arith, h.4.4.4.4.4.2, page-slots ns h.4.4.4.4.4.2))

pub say_whole-requires : goal.say_whole-requires
say_whole-requires c =
    omega (arith, slots c.args.ns.now c.args.page.now c.requires.stands c.requires.page_value, length-take room_slots (page_in c.args.ns.now))

pub returns-then-page-le-MOST_SLOTS-clause-upper_bound : goal.returns-then-page-le-MOST_SLOTS-clause-upper_bound
returns-then-page-le-MOST_SLOTS-clause-upper_bound c =
    omega (arith, slots c.args.ns.now c.args.page.now c.requires.stands c.requires.page_value, length-take room_slots (page_in c.args.ns.now))

pub returns-else-page-le-MOST_SLOTS-clause-put : goal.returns-else-page-le-MOST_SLOTS-clause-put
returns-else-page-le-MOST_SLOTS-clause-put c =
    let ns = c.args.ns.now in
    let page = slots ns c.args.page.now c.requires.stands c.requires.page_value in
    let many = lt-leb (length (page_in ns)) most_slots (omega (arith, page, length-take room_slots (page_in ns))) in
    let left = c.list_at.ensures ∙ sym (crowded-page (sheet_in ns) (arg ns 0) (messages_in ns) (notes_in ns) (page_in ns) (records_in ns) many) in
    put-text (same_text c.write_whole-told.ensures.result_value left c.write_whole-told.ensures.notes_after) c.say_whole-else-page-le-MOST_SLOTS.ensures.put
