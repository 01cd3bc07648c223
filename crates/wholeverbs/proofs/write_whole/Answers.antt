-- `write_whole` meets its contract: what the call tells and leaves of the clipped page and records is what it tells and leaves of the line's own.
-- The shape of the verb has every number at the place that is read.
use mathlib.Core.Path.{◌∙◌}
use native.Mathlib.Omega.{arith}
use Rattle.text.specs.Bytes.{bytes}
use Rattle.rooms.proofs.Lists.{records-hold}
use Rattle.wholeverbs.proofs.Clipped.{Lends, first-records, told-clipped, page-clipped, notes-clipped}
use Rattle.wholeverbs.proofs.write_whole.Goals as goal

pub copy_records-records-requires-clause-records : goal.copy_records-records-requires-clause-records
copy_records-records-requires-clause-records c j h = records-hold (bytes "Lmw") c.args.ns.now c.requires.stands j (omega (arith, c.min-held.ensures))

pub returns : goal.returns
returns c =
    let lent : Lends _ c.args.ns.now _ _ _ _ = record {
      sheet_is = c.sheet_of.ensures;
      page_is = c.requires.page_value;
      records_are = first-records c.args.ns.now _ c.min-held.result c.min-held.ensures c.copy_records-records.ensures;
      messages_are = c.list_at.ensures;
      notes_are = c.requires.notes_value;
    } in
    record {
      result_value = c.from.ensures ∙ c.page_write_all.ensures.result_value ∙ told-clipped lent;
      page_after = λ h. c.page_write_all.ensures.page_after ∙ page-clipped lent h;
      notes_after = c.page_write_all.ensures.notes_after ∙ notes-clipped lent;
    }
