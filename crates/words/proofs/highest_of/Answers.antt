-- `highest_of` meets its contract: above the highest cell stand the leading zeros.
use Rattle.std.proofs.Common.{ℕ, ◌≡◌, ◌+◌, ◌-◌, ◌^◌, ◌≤◌, ◌<◌, arith}
use native.Mathlib.Numerals.{add-one}
use Rattle.std.specs.Int.Count.{count_leading_zeros}
use Rattle.std.proofs.lemmas.Nat.{leading_top}
use Rattle.words.proofs.highest_of.Goals as goal

-- the cell behind them is the highest
highest : (x : ℕ) → 0 < x → x < 2 ^ 64 → (63 - count_leading_zeros 64 x < 64) × (2 ^ (63 - count_leading_zeros 64 x) ≤ x) × (x < 2 ^ (63 - count_leading_zeros 64 x + 1))
highest x p h =
    let t = leading_top 64 x p h in
    let e : 63 - count_leading_zeros 64 x ≡ t.0 = omega (arith, t.1) in
    rw (e, add-one t.0) (omega (arith, t.1), t.2, t.3)

pub returns-in_default : goal.returns-in_default
returns-in_default c = highest c.args.x (omega arith) (omega arith)
