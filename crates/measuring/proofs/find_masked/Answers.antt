-- `find_masked` meets its contract.
use mathlib.Core.Path.{ap}
use borrow.Author.Rules.{rules}
use Rattle.paper.specs.Sheet.{Sheet}
use Rattle.measuring.proofs.Searching.{masked_found}
use Rattle.measuring.proofs.find_masked.Goals as goal

pub returns : goal.returns
returns c = search (rules, masked_found, ap (λ (s : Sheet). s.n) c.sheet.view_is)
