-- `solve` meets its contract: nothing is left of the target exactly if some choice makes it, and its choice is then the first.
use Rattle.std.proofs.Common.{List, ap, sym, ◌∙◌, bit_and}
use Rattle.paper.specs.First.{at}
use Rattle.elimination.specs.declared.Reduced.{Reduced}
use Rattle.elimination.specs.Kept.{reduced, masked}
use Rattle.elimination.proofs.Masked.{choice-masked}
use Rattle.elimination.proofs.Solutions.{first-choice, no-choice}
use Rattle.elimination.proofs.solve.Goals as goal

pub returns-then-r-eq0 : goal.returns-then-r-eq0
returns-then-r-eq0 c =
    let a = c.args in
    let x = bit_and a.target a.mask in
    let e = c.reduce-r.ensures ∙ ap (λ (ks : List Reduced). reduced ks x) c.keep_rows-kept.ensures in
    ap (λ (r : Reduced). at r.choice) e
    ∙ sym (choice-masked a.mask a.rows.now x ∙ first-choice (masked a.mask a.rows.now) x (ap (λ (r : Reduced). r.rest) (sym e) ∙ c.if-r-eq0.true))

pub returns-else-r-eq0 : goal.returns-else-r-eq0
returns-else-r-eq0 c =
    let a = c.args in
    let x = bit_and a.target a.mask in
    let e = c.reduce-r.ensures ∙ ap (λ (ks : List Reduced). reduced ks x) c.keep_rows-kept.ensures in
    sym (choice-masked a.mask a.rows.now x ∙ no-choice (masked a.mask a.rows.now) x (λ z. c.if-r-eq0.false (ap (λ (r : Reduced). r.rest) e ∙ z)))
