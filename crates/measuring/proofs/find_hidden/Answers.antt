-- `find_hidden` meets its contract: M has rows, so a message other than 0 is asked for.
use mathlib.Core.Path.{ap}
use native.Mathlib.Omega.{arith}
use borrow.Author.Rules.{rules}
use lib.ListN.{length}
use Prim.Native.Nat.{◌<◌}
use Rattle.paper.specs.Sheet.{Sheet, M}
use Rattle.measuring.proofs.Searching.{hidden_found}
use Rattle.measuring.proofs.find_hidden.Goals as goal

pub returns : goal.returns
returns c =
    let i = c.sheet.invariant in
    let some : 0 < length (M c.args.sheet.now) = omega (arith, i.count-M, i.shape.some-message, ap (λ (s : Sheet). length (M s)) c.sheet.view_is) in
    search (rules, hidden_found, some, ap (λ (s : Sheet). s.n) c.sheet.view_is)
