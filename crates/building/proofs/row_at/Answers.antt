-- `row_at` meets its contract: each part's rows are those of its formula, and fit a word.
use mathlib.Core.Path.{sym, ◌∙◌, subst}
use Prim.Native.Nat.{ℕ, ◌+◌, ◌-◌, ◌<◌}
use native.Mathlib.Nat.{lt_of_lt_of_le}
use native.Mathlib.Omega.{arith}
use lib.Pow.{pow_mono}
use Rattle.paper.specs.Tables.{Tables}
use Rattle.building.specs.Handed.{Fit}
use Rattle.building.proofs.Admitted.{row_g1-lt, row_g0-lt, row_h-lt, row_m-lt}
use Rattle.building.proofs.Rows.{at-G1, at-G0, at_H, at-M}
use Rattle.building.proofs.row_at.Goals as goal

-- what is asked, of the tables' fields too
abbrev Asked : ℕ → Tables → Type 0
Asked i t = Fit t × (i < t.n + t.k)

pub g1_row-requires : goal.g1_row-requires
g1_row-requires c =
    let z = subst (Asked c.args.i) (sym c.tables.view_is) c.requires in
    rw (← c.tables.view_is)
    (omega arith, omega arith, lt_of_lt_of_le (row_g1-lt _ _ _ _ _ _ z.0 _ c.if-i-tables.true) (pow_mono z.0.few-cells))

pub returns-then-i-tables : goal.returns-then-i-tables
returns-then-i-tables c =
    let z = subst (Asked c.args.i) (sym c.tables.view_is) c.requires in
    c.g1_row.ensures ∙ rw (← c.tables.view_is) (sym (at-G1 _ _ _ _ _ _ z.0.rows-R _ c.if-i-tables.true))

pub g0_row-requires : goal.g0_row-requires
g0_row-requires c =
    let i = c.tables.inside in
    let z = subst (Asked c.args.i) (sym c.tables.view_is) c.requires in
    let h : c.args.i - i.k < i.l = omega arith in
    rw (← c.tables.view_is)
    (omega arith, omega arith, omega arith, lt_of_lt_of_le (row_g0-lt _ _ _ _ _ _ z.0 _ h) (pow_mono z.0.few-cells))

pub returns-then-i-g : goal.returns-then-i-g
returns-then-i-g c =
    let z = subst (Asked c.args.i) (sym c.tables.view_is) c.requires in
    c.g0_row.ensures ∙ rw (← c.tables.view_is) (sym (at-G0 _ _ _ _ _ _ z.0.rows-R _ (omega arith) c.if-i-g.true))

pub h_row-requires : goal.h_row-requires
h_row-requires c =
    let i = c.tables.inside in
    let z = subst (Asked c.args.i) (sym c.tables.view_is) c.requires in
    let h : c.args.i - (i.k + i.l) < i.n - (i.k + i.l) = omega arith in
    rw (← c.tables.view_is)
    (omega arith, omega arith, omega arith, omega arith, lt_of_lt_of_le (row_h-lt _ _ _ _ _ _ z.0 _ h) (pow_mono z.0.few-cells))

pub returns-then-i-tables-2 : goal.returns-then-i-tables-2
returns-then-i-tables-2 c =
    let z = subst (Asked c.args.i) (sym c.tables.view_is) c.requires in
    c.h_row.ensures ∙ rw (← c.tables.view_is) (sym (at_H _ _ _ _ _ _ z.0.rows-R _ (omega arith) c.if-i-tables-2.true))

pub m_row-requires : goal.m_row-requires
m_row-requires c =
    let i = c.tables.inside in
    let z = subst (Asked c.args.i) (sym c.tables.view_is) c.requires in
    let h : c.args.i - i.n < i.k = omega arith in
    rw (← c.tables.view_is)
    (omega arith, omega arith, lt_of_lt_of_le (row_m-lt _ _ _ _ _ _ z.0 _ h) (pow_mono z.0.few-cells))

pub returns-else-i-tables-2 : goal.returns-else-i-tables-2
returns-else-i-tables-2 c =
    let z = subst (Asked c.args.i) (sym c.tables.view_is) c.requires in
    c.m_row.ensures ∙ rw (← c.tables.view_is) (sym (at-M _ _ _ _ _ _ z.0.rows-R _ z.0.space (omega arith) z.1))
