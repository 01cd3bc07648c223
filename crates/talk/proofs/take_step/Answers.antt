-- `take_step` meets its contract: the line goes on, or it ends and is answered.
-- It is the step that the console repeats.
use lib.ListN.{length, take}
use Rattle.std.proofs.lemmas.Option.{MatchOption-at_none, MatchOption-at_some}
use Rattle.talk.proofs.Pieces.{step_stays, step-ends}
use Rattle.talk.proofs.take_step.Goals as goal

pub returns-in_default-clause-stepped : goal.returns-in_default-clause-stepped
returns-in_default-clause-stepped c =
    let a = c.args in
    let t = c.take_line-held in
    step_stays (length a.line.now) c.requires.rooms.lines (take a.held a.line.now) a.input.now c.requires.whole t.ensures.line_after
    (MatchOption-at_none _ _ c.in_default.is t.ensures.rest_value)

pub returns-clause-stepped : goal.returns-clause-stepped
returns-clause-stepped c =
    let a = c.args in
    let t = c.take_line-held in
    let rest = c.in-Some.rest in
    let behind = MatchOption-at_some _ _ rest c.in-Some.is t.ensures.rest_value in
    step-ends (length a.line.now) c.requires.rooms.lines (take a.held a.line.now) a.input.now c.requires.whole t.ensures.line_after rest.now
    (take c.answer-at.result c.answer-at.new.out) behind.0 behind.1 c.answer-at.ensures.put.holds
