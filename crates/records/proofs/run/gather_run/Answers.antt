-- `gather_run` meets its contract: what is gathered of each slot of the run is what the records that were passed gather to.
use mathlib.Core.Path.{refl, ◌∙◌}
use Prim.Native.Nat.{◌+◌, ◌<◌}
use native.Mathlib.Omega.{arith}
use lib.ListN.{length, get_or-replicate, length-set}
use Rattle.std.proofs.Common.{Ok}
use Rattle.records.specs.Gather.{nothing}
use Rattle.records.proofs.Gathers.{gathers-none, gathers-room}
use Rattle.records.specs.Runs.{run}
use Rattle.records.proofs.Passes.{none-gathers, one-gathers}
use Rattle.records.proofs.run.gather_run.Goals as goal
use Rattle.records.proofs.run.gather_run.Goals.{in-Some, in_default}

pub loop-r-init : goal.loop-r-init
loop-r-init c = (refl, λ j l. get_or-replicate run j (Ok nothing) (Ok nothing) l ∙ gathers-none _ _)

pub step-requires : goal.step-requires
step-requires c =
    let l = c.loop-r in
    let a = c.args in
    gathers-room (a.base + c.in-Some.at) a.n a.records.now l.r-index (l.invariant.1 c.in-Some.at c.in-Some.ensures.0) (omega arith)

pub loop-r-preserved : goal.loop-r-preserved
loop-r-preserved c =
    let l = c.loop-r in
    let a = c.args in
    let h : l.r-index < length a.records.now = omega arith in
    elim c.match-place_in_run.branch [
      | in-Some w ↦
          rw w.all-is (
            length-set l.all w.in-Some.at w.step.result ∙ l.invariant.0,
            one-gathers a.base a.n a.records.now l.all l.r-index h l.invariant.1 w.in-Some.at w.step.result w.in-Some.ensures.0
                (omega (arith, w.in-Some.ensures.0, l.invariant.0)) w.in-Some.ensures.1 w.step.ensures,
          )
      | in_default w ↦
          rw w.all-is (l.invariant.0, none-gathers a.base a.n a.records.now l.all l.r-index h l.invariant.1 w.in_default.ensures)
    ]
