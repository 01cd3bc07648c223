-- `sum_of` meets its contract: the rows passed and the rest of d's rows make the whole sum.
use Rattle.std.proofs.Common.{sym, ap, ◌∙◌, rules, arith}
use Rattle.std.proofs.lemmas.List.{length-take, get_or-take}
use native.Mathlib.Nat.{div-one}
use Rattle.paper.specs.Words.{sum, ◌⊕◌}
use Rattle.words.proofs.Sums.{⊕-zero-l}
use Rattle.words.proofs.Rows.{sum-next, sum-end}
use Rattle.words.proofs.sum_of.Goals as goal

pub loop-i-init : goal.loop-i-init
loop-i-init c = ⊕-zero-l _ ∙ ap (sum c.args.rows.now) (div-one c.args.d)

pub loop-i-preserved : goal.loop-i-preserved
unfolding ◌⊕◌
loop-i-preserved c =
    let l = c.loop-i in
    let rows = c.args.rows.now in
    let h = length-take c.min-count.result rows in
    rw (get_or-take c.min-count.result rows l.i 0 (omega arith)) (sum-next rows l.i l.word c.args.d (omega arith) ∙ l.invariant)

pub returns : goal.returns
returns c =
    let l = c.loop-i in
    let rows = c.args.rows.now in
    let h = length-take c.min-count.result rows in
    sym (sum-end rows l.i l.word c.args.d (omega arith) (search rules)) ∙ l.invariant
