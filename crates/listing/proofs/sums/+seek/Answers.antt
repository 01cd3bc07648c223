-- `seek` meets its contract, by its own at fewer cells: no word over the lower c cells fits.
use mathlib.Core.Path.{sym, ap, ◌∙◌}
use mathlib.Core.Bool.{Bool}
use Rattle.std.specs.Bool.{then_some}
use Prim.Native.Nat.{ℕ, ◌-◌}
use native.Mathlib.Omega.{arith}
use Rattle.paper.specs.Words.{◌⊕◌}
use Rattle.paper.specs.Listing.{listed}
use Rattle.listing.specs.declared.sums.Hit.{Hit}
use Rattle.listing.specs.Sums.{find, test}
use Rattle.marks.proofs.Marking.{ready-less}
use Rattle.listing.proofs.Seeking.{seek_zero, seek-short, seek-shut, turn_more, turn-hit, turn_end, turn-room}
use Rattle.listing.proofs.sums.+seek.Goals as goal
use Rattle.listing.proofs.sums.+seek.Goals.{then-is_open+in_default, else-is_open}

pub returns-then-v-eq0 : goal.returns-then-v-eq0
returns-then-v-eq0 t c =
    c.then_some.ensures ∙ ap (λ (b : Bool). then_some {T = Hit} b (record { z = 0; place = 1 })) c.is_met.ensures ∙ seek_zero _ _ _ _ _ _ c.if-v-eq0.true

pub returns-then-v-eq1 : goal.returns-then-v-eq1
returns-then-v-eq1 t c =
    let a = c.args in
    c.scan.ensures ∙ ap (λ (w : ℕ). find (test a.asked.now a.sum) (listed a.cells w)) (sym c.if-v-eq1.true)

pub loop-c-init : goal.loop-c-init
loop-c-init t c = seek-short _ _ _ _ _ _ (omega arith)

pub seek-requires : goal.seek-requires
seek-requires t c = (omega arith, (omega arith, omega arith, omega arith, ready-less (omega arith) c.requires.3))

pub overflow_add-result : goal.overflow_add-result
overflow_add-result t c =
    omega (arith, turn-room _ c.loop-c.c c.args.v {z = c.in-Some.hit.z} {u = c.in-Some.hit.place} (omega arith) (omega arith) (omega arith) (sym c.seek.ensures ∙ c.in-Some.is), c.cell_of.ensures)

pub overflow_add-result-in-Some : goal.overflow_add-result-in-Some
overflow_add-result-in-Some t c =
    omega (arith, turn-room _ c.loop-c.c c.args.v {z = c.in-Some.hit.z} {u = c.in-Some.hit.place} (omega arith) (omega arith) (omega arith) (sym c.seek.ensures ∙ c.in-Some.is), c.ways.ensures)

pub returns-in-Some : goal.returns-in-Some
unfolding ◌⊕◌
returns-in-Some t c =
    let a = c.args in
    let q = a.asked.now in
    sym
    (turn-hit q.cols.now q.clear q.least a.sum c.loop-c.c a.v (omega arith) c.loop-c.invariant {z = c.in-Some.hit.z} {u = c.in-Some.hit.place} a.cells (omega arith)
    (sym c.seek.ensures ∙ c.in-Some.is) c.cell_of.ensures c.ways.ensures)

pub loop-c-preserved : goal.loop-c-preserved
unfolding ◌⊕◌
loop-c-preserved t c =
    let a = c.args in
    let q = a.asked.now in
    turn_more q.cols.now q.clear q.least a.sum c.loop-c.c a.v (omega arith) c.loop-c.invariant
    (elim c.if-is_open.branch [
      | then-is_open+in_default w ↦ sym w.seek.ensures ∙ w.in_default.is
      | else-is_open w ↦
          seek-shut q.marks.now q.cols.now q.clear q.least _ a.cells c.loop-c.c (a.v - 1) q.low c.requires.3 (omega arith) (omega arith) (sym w.if-is_open.ensures)
    ])

pub returns : goal.returns
returns t c =
    let a = c.args in
    let q = a.asked.now in
    sym (turn_end q.cols.now q.clear q.least a.sum c.loop-c.c a.cells a.v (omega arith) (omega arith) c.loop-c.invariant)
