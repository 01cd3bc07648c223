-- `put` meets its contract: the bit at the place of x is set, and no bit is lost.
use Rattle.std.proofs.Common.{◌/◌, ◌<◌, length, arith}
use Rattle.paper.specs.Words.{width}
use Rattle.marks.proofs.Marking.{slot_lt, after, put_has, put_keeps}
use Rattle.marks.proofs.put.Goals as goal

pub returns : goal.returns
unfolding after
returns c =
    let t = c.args.t.now in
    let i = c.slot_of-i.result in
    let h : i / width < length t = omega (arith, c.slot_of-i.ensures, slot_lt (length t) c.args.x (omega arith)) in
    (put_has t i h c.args.x c.slot_of-i.ensures, put_keeps t i h)
