-- `gather` meets its contract: a step takes one record more, and behind the first that breaks the rule nothing changes.
use Rattle.std.proofs.Common.{sym, ◌∙◌, ◌+◌, arith}
use Rattle.std.proofs.lemmas.Result.{err_from_is_err_and}
use Rattle.records.proofs.Gathers.{gathers-none, gathers-step, gathers-broken, gathers-room}
use Rattle.records.proofs.gather.Goals as goal

pub loop-r-init : goal.loop-r-init
loop-r-init c = gathers-none c.args.slot c.args.n

pub step-requires : goal.step-requires
step-requires c =
    let a = c.args in
    gathers-room a.slot a.n a.records.now c.loop-r.r-index c.loop-r.invariant (omega arith)

pub returns-in_err-acc : goal.returns-in_err-acc
returns-in_err-acc c =
    let a = c.args in
    let p = err_from_is_err_and c.from_residual.result c.from_residual.ensures.1 in
    let e = gathers-step a.slot a.n a.records.now c.loop-r.r-index (omega arith) c.loop-r.invariant in
    rw (p.1, p.2) (sym (gathers-broken a.slot a.n a.records.now (c.loop-r.r-index + 1) (sym e ∙ sym c.step.ensures ∙ c.in_err-acc.was)))

pub loop-r-preserved : goal.loop-r-preserved
loop-r-preserved c =
    let a = c.args in
    sym c.in_ok-acc.was ∙ c.step.ensures ∙ gathers-step a.slot a.n a.records.now c.loop-r.r-index (omega arith) c.loop-r.invariant
