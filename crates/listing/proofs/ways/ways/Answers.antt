-- `ways` meets its contract: the number of the words of weight i gives that of the next weight.
use mathlib.Core.Path.{◌≡◌, sym, ◌∙◌}
use Prim.Native.Nat.{◌+◌, ◌*◌, ◌/◌, ◌%◌, ◌^◌, ◌<◌}
use native.Mathlib.Omega.{arith}
use lib.ListN.{length}
use Rattle.paper.specs.Words.{width}
use Rattle.paper.specs.Listing.{listed}
use Rattle.listing.proofs.Listed.{length-zero}
use Rattle.listing.proofs.Choosing.{ways-step, ways-fits, rest-fits}
use Rattle.listing.proofs.ways.ways.Goals as goal

pub loop-i-init : goal.loop-i-init
loop-i-init c = sym (length-zero c.args.n)

-- one step, in the code's words
module _ (c : goal.After-from-taken) where
  step : let k = c.from-taken.result + 1 in
      let b = c.loop-i.count in
      let m = c.from-left.result in
      (b / k * m + b % k * m / k ≡ length (listed c.args.n (c.loop-i.i + 1))) × (b / k * m + b % k * m / k < 2 ^ width) × (b % k * m < 2 ^ width)
  step =
      let a = c.args in
      let l = c.loop-i in
      let m = c.from-left.ensures ∙ c.saturating_sub.ensures in
      rw c.from-taken.ensures (
        ways-step a.n l.i l.invariant m,
        ways-fits a.n l.i l.invariant m (omega arith) (omega arith),
        rest-fits a.n l.i l.invariant m (omega arith) (omega arith),
      )

pub overflow_mul-count : goal.overflow_mul-count
overflow_mul-count c = omega (arith, step c)

pub overflow_add-count : goal.overflow_add-count
overflow_add-count c = omega (arith, step c)

pub loop-i-preserved : goal.loop-i-preserved
loop-i-preserved c = (step c).0
