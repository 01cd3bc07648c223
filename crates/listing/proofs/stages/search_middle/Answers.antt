-- `search_middle` meets its contract: what the first weights leave gives the rest of the answer.
use mathlib.Core.Path.{sym, ◌∙◌}
use native.Mathlib.Omega.{arith}
use Rattle.listing.proofs.Sweeping.{split-room, split-hit, split_none, split-more, split_rest}
use Rattle.listing.proofs.stages.search_middle.Goals as goal
use Rattle.listing.proofs.stages.search_middle.Goals.{then-is_some-via-then-is_some, then-is_some-via-else-is_some+then-stop-end}

pub sweep_marked-got-requires-clause-room : goal.sweep_marked-got-requires-clause-room
sweep_marked-got-requires-clause-room c =
    let a = c.args in
    split-room a.n a.from c.max-stop.result a.end (omega arith) (omega arith) a.start c.requires.room

pub returns-then-is_some : goal.returns-then-is_some
returns-then-is_some c =
    let a = c.args in
    let g = c.sweep_marked-got in
    elim c.then-is_some.branch [
      | then-is_some-via-then-is_some w ↦
          split-hit a.n a.from c.max-stop.result a.end (omega arith) (omega arith) _ a.start g.result g.ensures (sym c.is_some.ensures ∙ w.if-is_some.true)
      | then-is_some-via-else-is_some+then-stop-end w ↦
          split_none a.n a.from c.max-stop.result a.end (omega arith) (omega arith) _ a.start g.result g.ensures w.if-stop-end.true
    ]

pub search_far-requires-clause-room : goal.search_far-requires-clause-room
search_far-requires-clause-room c =
    let a = c.args in
    let g = c.sweep_marked-got in
    split_rest a.n a.from c.max-stop.result a.end (omega arith) (omega arith) _ a.start g.result g.ensures (sym c.is_some.ensures ∙ c.if-is_some.false) c.requires.room

pub returns : goal.returns
returns c =
    let a = c.args in
    let g = c.sweep_marked-got in
    c.search_far.ensures
    ∙ sym (split-more a.n a.from c.max-stop.result a.end (omega arith) (omega arith) _ a.start g.result g.ensures (sym c.is_some.ensures ∙ c.if-is_some.false))
