-- As many rows as the tables have, from the test and back. For the sizes that both calls judge. Assumes nothing.
use mathlib.Core.Path.{◌≡◌}
use mathlib.Core.Bool.{true, ◌&&◌, and-eq-true_iff}
use Prim.Native.Nat.{ℕ}
use borrow.Author.Tests.{eqb-true, eq-eqb}
use lib.Dec.{eqb}
use Rattle.paper.specs.Tables.{tabled}
use Rattle.blocks.specs.Counts.{Counted}

pub counted : (k l p r q : ℕ) → tabled k l p r q ≡ true → Counted k l p r q
counted k l p r q e =
    let a = (and-eq-true_iff (eqb p k && eqb r l) (eqb q l)).0 e in
    let b = (and-eq-true_iff (eqb p k) (eqb r l)).0 a.0 in
    record { rows-P = eqb-true p k b.0; rows-R = eqb-true r l b.1; rows-Q = eqb-true q l a.1 }

pub tabled-counted : (k l p r q : ℕ) → Counted k l p r q → tabled k l p r q ≡ true
tabled-counted k l p r q c = simp (eq-eqb p k c.rows-P, eq-eqb r l c.rows-R, eq-eqb q l c.rows-Q)
