-- `find_nearest` meets its contract.
use mathlib.Core.Path.{◌≡◌, refl, sym, subst}
use Rattle.paper.specs.Sheet.{Sheet, H}
use Rattle.reading.proofs.Searching.{nearest-found}
use Rattle.reading.proofs.find_nearest.Goals as goal

pub returns : goal.returns
returns c =
    let a = c.args in
    rw (← c.sheet.view_is)
    (nearest-found _ _ _ a.y a.radius c.search_weights.ensures (subst (λ (s : Sheet). c.h.result.now ≡ H s) (sym c.sheet.view_is) c.h.ensures.rows) refl)
