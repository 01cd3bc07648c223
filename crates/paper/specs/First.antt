-- The first number with a property.
use Rattle.std.specs.Prelude.{Bool, true, false, ℕ, zero, suc}

-- a number, or that there is none
pub data First : Type 0 where
  nowhere : First
  at : ℕ → First

-- what was found before, or else i if its test holds
abbrev pub or_at : First → ℕ → Bool → First
or_at (at j) i test = at j
or_at nowhere i true = at i
or_at nowhere i false = nowhere

-- the first number below n that passes the test
unfoldable pub first : ℕ → (ℕ → Bool) → First
first zero p = nowhere
first (suc n) p = or_at (first n p) n (p n)

-- whether there is one
abbrev pub is_somewhere : First → Bool
is_somewhere (at i) = true
is_somewhere nowhere = false

-- whether some number below n passes the test
abbrev pub any : ℕ → (ℕ → Bool) → Bool
any n p = is_somewhere (first n p)
