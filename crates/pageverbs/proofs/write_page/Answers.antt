-- `write_page` meets its contract: what the call tells of the clipped page and records is what it tells of the line's own.
-- The shape of the verb has every number at the place that is read.
use mathlib.Core.Path.{ap, ◌∙◌}
use native.Mathlib.Omega.{arith}
use Rattle.paper.specs.Page.{page_after_write}
use Rattle.paper.specs.Refusals.{Told}
use Rattle.text.specs.Bytes.{bytes}
use Rattle.lines.specs.Arguments.{at}
use Rattle.rooms.specs.Lent.{records_end}
use Rattle.rooms.proofs.Lists.{records-hold}
use Rattle.pageverbs.proofs.Crowded.{written-clipped}
use Rattle.pageverbs.proofs.write_page.Goals as goal

pub copy_records-records-requires-clause-records : goal.copy_records-records-requires-clause-records
copy_records-records-requires-clause-records c j h = records-hold (bytes "nw") c.args.ns.now c.requires.stands j (omega (arith, c.min-held.ensures))

pub returns-clause-result_value : goal.returns-clause-result_value
returns-clause-result_value c =
    c.from.ensures ∙ c.page_write.ensures.result_value
    ∙ written-clipped c.args.ns.now c.args.page.now _ c.min-held.result c.sheet_of.ensures c.requires.page_value c.min-held.ensures c.copy_records-records.ensures

pub returns-clause-page_after : goal.returns-clause-page_after
returns-clause-page_after c =
    let ns = c.args.ns.now in
    c.page_write.ensures.page_after
    ∙ ap (λ (t : Told). page_after_write t c.args.page.now (at ns (records_end ns)))
    (written-clipped ns c.args.page.now _ c.min-held.result c.sheet_of.ensures c.requires.page_value c.min-held.ensures c.copy_records-records.ensures)
