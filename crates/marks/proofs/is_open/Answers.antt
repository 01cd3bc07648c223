-- `is_open` meets its contract: the bit that is read is the mark of x, and up to `low` the mark alone tells.
use Rattle.std.proofs.Common.{ℕ, Bool, sym, ap, ◌∙◌, ◌||◌, eqb, arith}
use borrow.Author.Tests.{le-ltb}
use Rattle.marks.specs.Marks.{bit, mark}
use Rattle.marks.proofs.is_open.Goals as goal

pub returns : goal.returns
unfolding mark
returns c =
    let a = c.args in
    ap (λ (i : ℕ). eqb (bit a.t.now i) 1) c.slot_of-i.ensures
    ∙ sym (ap (λ (b : Bool). b || eqb (mark a.t.now a.x) 1) (le-ltb a.low a.v (omega arith)))
