-- `first_dependent` meets its contract: under a mask of all cells the rows kept are those of the rows themselves, and nothing is left
-- of a row exactly where it is a sum of earlier rows.
use Rattle.std.proofs.Common.{◌≡◌, List, ap, ◌∙◌, length, get_or, eqb, take}
use Rattle.paper.specs.First.{first}
use Rattle.paper.specs.Words.{width}
use Rattle.elimination.specs.declared.Reduced.{Reduced}
use Rattle.elimination.specs.Kept.{kept_rows}
use Rattle.elimination.proofs.Masked.{masked-all}
use Rattle.elimination.proofs.Solutions.{first-dependence}
use Rattle.elimination.proofs.first_dependent.Goals as goal

pub returns : goal.returns
returns c =
    let rows = c.args.rows.now in
    let z : Reduced = record { rest = 0; choice = 0 } in
    let e : take (length rows) c.keep_rows-kept.result ≡ kept_rows rows =
    c.keep_rows-kept.ensures ∙ ap kept_rows (masked-all width rows (λ j. (c.type_inv.rows j).fits)) in
    c.first_zero.ensures ∙ ap (λ (ks : List Reduced). first (length ks) (λ j. eqb (get_or ks j z).rest 0)) e ∙ first-dependence rows z
