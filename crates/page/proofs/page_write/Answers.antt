-- `page_write` meets its contract: what the slot's records gather to is written as the definition says.
use Rattle.std.proofs.Common.{ℕ, ap, ◌∙◌, length, Result}
use Rattle.paper.specs.Page.{page_after_write}
use Rattle.paper.specs.Refusals.{Told}
use Rattle.paper.specs.Sheet.{Sheet}
use Rattle.records.specs.Gather.{gather_of}
use Rattle.records.specs.declared.Gathered.{Gathered}
use Rattle.page.specs.Steps.{writes_with}
use Rattle.page.proofs.Slots.{with-gathered}
use Rattle.page.proofs.page_write.Goals as goal

pub returns : goal.returns
returns c =
    let a = c.args in
    let s = a.sheet.now in
    let e = ap (λ (g : Result Gathered ℕ). writes_with s a.number a.page.now (length a.records.now) g a.slot a.message) (c.gather-g.ensures ∙ ap (λ (s : Sheet). gather_of a.slot s.n a.records.now) c.sheet.view_is)
    ∙ with-gathered s a.number a.page.now a.records.now a.slot a.message in
    record {
      result_value = c.write_gathered.ensures.result_value ∙ e;
      page_after = c.write_gathered.ensures.page_after ∙ ap (λ (t : Told). page_after_write t a.page.now a.slot) e;
    }
