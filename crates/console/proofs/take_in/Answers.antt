-- `take_in` meets its contract: a step's text comes behind those of the steps before it.
use Rattle.std.proofs.Common.{arith}
use Rattle.talk.proofs.Pieces.{answered-more}
use Rattle.console.proofs.take_in.Goals as goal

pub loop-rest-preserved : goal.loop-rest-preserved
loop-rest-preserved g c =
    let s = c.take_step-step.ensures in
    let i = c.loop-rest.invariant in
    record {
      inside = omega (arith, s.in_bounds, i.lines);
      lines = omega (arith, i.lines);
      numbers = omega (arith, i.numbers);
      texts = omega (arith, i.texts);
      answered = answered-more i.answered s.stepped;
    }
