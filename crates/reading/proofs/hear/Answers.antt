-- `hear` meets its contract: the message of the nearest codeword, or 12.
use mathlib.Core.Path.{sym, ap, ◌∙◌}
use mathlib.Core.List.{List, [], ◌∷◌}
use Prim.Native.Nat.{ℕ}
use Rattle.paper.specs.Reading.{heard}
use Rattle.paper.specs.Refusals.{answer}
use Rattle.paper.specs.Words.{products, ◌⊕◌}
use Rattle.listing.proofs.Tests.{searched-found}
use Rattle.reading.proofs.hear.Goals as goal

pub returns-in-Some : goal.returns-in-Some
unfolding ◌⊕◌
returns-in-Some c =
    let a = c.args in
    let f = c.find_nearest-z.result in
    let z = c.in-Some.z in
    ap (λ (m : ℕ). answer (m ∷ z ∷ f.tried ∷ [])) (c.products_of.ensures ∙ ap (λ (g : List ℕ). products g (a.y ⊕ z)) c.m-m.ensures.rows)
    ∙ ap (heard a.sheet.now a.y) (sym (searched-found f c.in-Some.is) ∙ c.find_nearest-z.ensures)
