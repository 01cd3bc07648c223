-- `write_gathered` meets its contract: 1 to 6, 16 and 13, then 14, then the slot is written.
use mathlib.Core.Path.{refl, ap, ◌∙◌}
use mathlib.Core.Bool.{Bool, ◌&&◌}
use mathlib.Core.List.{List}
use Prim.Native.Nat.{ℕ}
use borrow.Author.Tests.{lt-ltb, le-ltb}
use lib.Dec.{leb, ltb}
use lib.ListN.{length}
use Rattle.paper.specs.Page.{most_records, few_slots, page_after_write}
use Rattle.paper.specs.Refusals.{Told, unless}
use Rattle.paper.specs.Sheet.{Sheet}
use Rattle.rules.proofs.Rules.{unless-stop, unless-pass}
use Rattle.page.specs.Steps.{puts_admitted, writes_with}
use Rattle.rules.proofs.Stages.{told-refused, told-next}
use Rattle.opening.proofs.Judging.{paged-stage, paged-tested}
use Rattle.page.proofs.write_gathered.Goals as goal

-- slots and records are few enough
abbrev few : List ℕ → ℕ → Bool
few page count = few_slots page && leb count most_records

-- what is told by another name is what the page was left by
abbrev after : List ℕ → ℕ → Told → List ℕ
after page slot told = page_after_write told page slot

pub returns-in-Err : goal.returns-in-Err
unfolding writes_with
returns-in-Err c =
    let a = c.args in
    let s = a.sheet.now in
    let e = told-refused (paged-stage s a.number (few a.page.now a.count)) (paged-tested s a.number c.are_few.ensures c.admit.ensures.told)
    (unless (ltb a.slot (length a.page.now)) 14 (puts_admitted s a.g a.message)) c.in-Err.is in
    record { result_value = e; page_after = ap (after a.page.now a.slot) e }

pub returns-then-page-at : goal.returns-then-page-at
unfolding writes_with
returns-then-page-at c =
    let a = c.args in
    let s = a.sheet.now in
    let next = puts_admitted s a.g a.message in
    let e = told-next (paged-stage s a.number (few a.page.now a.count)) (paged-tested s a.number c.are_few.ensures c.admit.ensures.told) c.in-Ok.is
    (unless (ltb a.slot (length a.page.now)) 14 next) (unless-stop 14 next (le-ltb _ _ c.if-page-at.true)) in
    record { result_value = e; page_after = ap (after a.page.now a.slot) e }

pub returns : goal.returns
unfolding writes_with
returns c =
    let a = c.args in
    let s = a.sheet.now in
    let next = puts_admitted s a.g a.message in
    let e = ap (λ (t : Sheet). puts_admitted t a.g a.message) c.in-Ok.ensures.same
    ∙ told-next (paged-stage s a.number (few a.page.now a.count)) (paged-tested s a.number c.are_few.ensures c.admit.ensures.told) c.in-Ok.is
    (unless (ltb a.slot (length a.page.now)) 14 next) (unless-pass 14 next (lt-ltb _ _ c.if-page-at.false) refl) in
    record { result_value = c.put.ensures.result_value ∙ e; page_after = c.put.ensures.page_after ∙ ap (after a.page.now a.slot) e }
