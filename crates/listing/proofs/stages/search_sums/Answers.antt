-- `search_sums` meets its contract: what the first weights leave gives the rest of the answer.
use mathlib.Core.Path.{sym, ◌∙◌}
use Prim.Native.Nat.{ℕ, ◌+◌, ◌-◌, ◌^◌, ◌≤◌, ◌<◌}
use native.Mathlib.Omega.{arith}
use lib.ListN.{length}
use Rattle.paper.specs.Words.{width}
use Rattle.paper.specs.Listing.{weights}
use Rattle.listing.proofs.Sweeping.{split-room, split-hit, split_none, split-more, split_rest}
use Rattle.listing.proofs.Listed.{weights-fit}
use Rattle.listing.proofs.stages.search_sums.Goals as goal
use Rattle.listing.proofs.stages.search_sums.Goals.{then-is_some-via-then-is_some, then-is_some-via-else-is_some+then-stop-end}

-- the whole list fits a word
fits : (n from end : ℕ) → n ≤ width → from ≤ end → end ≤ width → 0 + length (weights n from (end - from)) < 2 ^ width
fits n from end h l g = omega (arith, weights-fit width n from (end - from) h (omega arith))

pub sweep-got-requires-clause-room : goal.sweep-got-requires-clause-room
sweep-got-requires-clause-room c =
    let a = c.args in
    split-room a.n a.from c.max-stop.result a.end (omega arith) (omega arith) 0 (fits a.n a.from a.end (omega arith) (omega arith) (omega arith))

pub returns-then-is_some : goal.returns-then-is_some
returns-then-is_some c =
    let a = c.args in
    let g = c.sweep-got in
    elim c.then-is_some.branch [
      | then-is_some-via-then-is_some w ↦
          split-hit a.n a.from c.max-stop.result a.end (omega arith) (omega arith) _ 0 g.result g.ensures (sym c.is_some.ensures ∙ w.if-is_some.true)
      | then-is_some-via-else-is_some+then-stop-end w ↦
          split_none a.n a.from c.max-stop.result a.end (omega arith) (omega arith) _ 0 g.result g.ensures w.if-stop-end.true
    ]

pub search_near-requires-clause-room : goal.search_near-requires-clause-room
search_near-requires-clause-room c =
    let a = c.args in
    let g = c.sweep-got in
    split_rest a.n a.from c.max-stop.result a.end (omega arith) (omega arith) _ 0 g.result g.ensures (sym c.is_some.ensures ∙ c.if-is_some.false) (fits a.n a.from a.end (omega arith) (omega arith) (omega arith))

pub returns : goal.returns
returns c =
    let a = c.args in
    let g = c.sweep-got in
    c.search_near.ensures
    ∙ sym (split-more a.n a.from c.max-stop.result a.end (omega arith) (omega arith) _ 0 g.result g.ensures (sym c.is_some.ensures ∙ c.if-is_some.false))
