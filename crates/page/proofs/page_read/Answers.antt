-- `page_read` meets its contract: 1 to 6, 16 and 13, then 14, then the job of reading what the slot holds.
use mathlib.Core.Path.{refl, ap, ◌∙◌}
use borrow.Author.Tests.{lt-ltb, le-ltb}
use lib.Dec.{ltb}
use lib.ListN.{length, get_or}
use Rattle.paper.specs.Page.{few_slots, slot_reads, page_reads}
use Rattle.paper.specs.Refusals.{unless}
use Rattle.paper.specs.Sheet.{Sheet}
use Rattle.rules.proofs.Rules.{unless-stop, unless-pass}
use Rattle.rules.proofs.Stages.{told-refused, told-next}
use Rattle.opening.proofs.Judging.{paged-stage}
use Rattle.page.proofs.page_read.Goals as goal

pub returns-in-Err : goal.returns-in-Err
unfolding page_reads
returns-in-Err c =
    let a = c.args in
    let s = a.sheet.now in
    told-refused (paged-stage s a.number (few_slots a.page.now)) c.admit.ensures.told
    (unless (ltb a.slot (length a.page.now)) 14 (slot_reads s a.number (get_or a.page.now a.slot 0) a.radius)) c.in-Err.is

pub returns-then-page-at : goal.returns-then-page-at
unfolding page_reads
returns-then-page-at c =
    let a = c.args in
    let s = a.sheet.now in
    let next = slot_reads s a.number (get_or a.page.now a.slot 0) a.radius in
    told-next (paged-stage s a.number (few_slots a.page.now)) c.admit.ensures.told c.in-Ok.is (unless (ltb a.slot (length a.page.now)) 14 next)
    (unless-stop 14 next (le-ltb _ _ c.if-page-at.true))

pub returns : goal.returns
unfolding page_reads
returns c =
    let a = c.args in
    let s = a.sheet.now in
    let next = slot_reads s a.number (get_or a.page.now a.slot 0) a.radius in
    c.read_slot.ensures
    ∙ ap (λ (t : Sheet). slot_reads t a.number (get_or a.page.now a.slot 0) a.radius) c.in-Ok.ensures.same
    ∙ told-next (paged-stage s a.number (few_slots a.page.now)) c.admit.ensures.told c.in-Ok.is (unless (ltb a.slot (length a.page.now)) 14 next)
    (unless-pass 14 next (lt-ltb _ _ c.if-page-at.false) refl)
