-- A room has as many bytes or numbers as were asked for.
-- It is said of any number, so that nobody counts those of a large room one by one.
use mathlib.Core.Path.{◌≡◌, sym}
use Prim.Native.Nat.{ℕ}
use lib.ListN.{length, replicate, length-replicate}

-- n zeros are n long
pub zeros : (n : ℕ) → n ≡ length {A = ℕ} (replicate n 0)
zeros n = sym (length-replicate {A = ℕ} n 0)
