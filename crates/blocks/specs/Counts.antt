-- How many rows there are for P, R and Q, as facts: what the code asks of its callers once sizes were judged.
use Rattle.std.specs.Prelude.{◌≡◌, ℕ}

-- "k, l and l"
pub record Counted (k l for_p for_r for_q : ℕ) : Type 0 where
  pub rows-P : for_p ≡ k
  pub rows-R : for_r ≡ l
  pub rows-Q : for_q ≡ l
