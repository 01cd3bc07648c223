-- `step` meets its contract: a record that keeps the rule has a cell of the machine's word, so that its level fits at its cell.
use mathlib.Core.Path.{sym}
use borrow.Author.Rules.{rules}
use Rattle.records.proofs.Steps.{passes, breaks-off, joins}
use Rattle.records.proofs.step.Goals as goal

pub returns-then-r-slot : goal.returns-then-r-slot
returns-then-r-slot c =
    let a = c.args in
    rw c.in_ok-acc.was (passes a.slot a.n c.in_ok-acc.acc a.r c.if-r-slot.true)

pub returns-then-breaks_rule : goal.returns-then-breaks_rule
returns-then-breaks_rule c =
    let a = c.args in
    rw c.in_ok-acc.was (breaks-off a.slot a.n c.in_ok-acc.acc a.r (search rules) (sym c.if-breaks_rule.ensures))

pub returns : goal.returns
returns c =
    let a = c.args in
    rw (c.in_ok-acc.was, c.cell_of-cell.ensures) (joins a.slot a.n c.in_ok-acc.acc a.r (search rules) (sym c.if-breaks_rule.ensures))
