-- `add_row` meets its contract: what is added, and what the cells of x still add, is all; and x has fewer cells each time.
use Rattle.std.proofs.Common.{arith}
use Rattle.columns.proofs.Adding.{lowest, none_lowest, weight-off, adding-fits, adding-more, adding-end}
use Rattle.columns.proofs.add_row.Goals as goal

pub bounds-cols-c : goal.bounds-cols-c
bounds-cols-c c = (lowest c.loop-c.x c.in-Some.ensures).within

pub overflow_add-cols : goal.overflow_add-cols
overflow_add-cols c = omega (arith, adding-fits _ _ _ _ _ _ c.loop-c.invariant (lowest c.loop-c.x c.in-Some.ensures).is_one c.requires.0)

pub bounds-cols-c-in-Some : goal.bounds-cols-c-in-Some
bounds-cols-c-in-Some c = (lowest c.loop-c.x c.in-Some.ensures).within

pub overflow_sub-x : goal.overflow_sub-x
overflow_sub-x c = (lowest c.loop-c.x c.in-Some.ensures).some

pub loop-c-smaller : goal.loop-c-smaller
loop-c-smaller c =
    let f = lowest c.loop-c.x c.in-Some.ensures in
    rw f.off (weight-off _ _ f.is_one)

pub loop-c-preserved : goal.loop-c-preserved
loop-c-preserved c =
    let f = lowest c.loop-c.x c.in-Some.ensures in
    λ j. rw f.off (adding-more _ _ _ _ _ _ c.loop-c.invariant f.is_one (omega arith) j)

pub returns : goal.returns
returns c = adding-end _ _ _ _ _ (none_lowest c.loop-c.x (omega arith) c.in_default.ensures) c.loop-c.invariant
