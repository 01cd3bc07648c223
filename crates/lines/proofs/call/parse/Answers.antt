-- `parse` meets its contract: what a line asks for is asked of the line without its carriage return.
-- It is the function that other crates call.
use mathlib.Core.Path.{sym, ap, ◌∙◌}
use Rattle.lines.specs.Lines.{silent, unknown, comes, calling, storing}
use Rattle.lines.proofs.Lines.{asked-trimmed, asked_in-trimmed}
use Rattle.lines.proofs.call.parse.Goals as goal

pub returns-clause-meaning : goal.returns-clause-meaning
returns-clause-meaning c =
    let a = c.args in
    c.parse_trimmed.ensures.meaning ∙ ap (comes unknown calling silent a.table.now) c.trimmed.ensures
    ∙ sym (asked-trimmed a.table.now a.line.now)

pub returns-clause-numbers_after : goal.returns-clause-numbers_after
returns-clause-numbers_after c =
    let a = c.args in
    let room = a.numbers.now in
    c.parse_trimmed.ensures.numbers_after ∙ ap (comes room (storing room) room a.table.now) c.trimmed.ensures
    ∙ sym (asked_in-trimmed a.table.now a.line.now room)
