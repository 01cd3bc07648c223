-- What an admitted sheet is, as facts that its verdict gives: the calls' inner functions and the theorems start from these.
use Rattle.std.specs.Prelude.{◌≡◌, ℕ, ◌+◌, ◌^◌, ◌≤◌, ◌<◌, length, get_or}
use Rattle.paper.specs.Words.{width, products}
use Rattle.paper.specs.Sheet.{Sheet, r, G1, G0, H, M}
use Rattle.elimination.proofs.Span.{All, Low, Free}

-- "k ≥ 1, k + l ≤ n, the lent rows are n + k in number", and n is 1 to the width
pub record Shaped (s : Sheet) : Type 0 where
  pub some-cells : 1 ≤ s.n
  pub few-cells : s.n ≤ width
  pub some-message : 1 ≤ s.k
  pub room : s.k + s.l ≤ s.n
  pub all-rows : length s.rows ≡ s.n + s.k

-- the parts' lengths, their rows over n cells, the products that the rules ask for, and rows none of which is a sum of earlier ones
pub record Sound (s : Sheet) : Type 0 where
  pub shape : Shaped s
  pub count-G1 : length (G1 s) ≡ s.k
  pub count-G0 : length (G0 s) ≡ s.l
  pub count-H : length (H s) ≡ r s
  pub count-M : length (M s) ≡ s.k
  pub low-G1 : All (Low s.n) (G1 s)
  pub low-G0 : All (Low s.n) (G0 s)
  pub low-H : All (Low s.n) (H s)
  pub low-M : All (Low s.n) (M s)
  pub code-G1 : All (λ g. products (H s) g ≡ 0) (G1 s)
  pub code-G0 : All (λ g. products (H s) g ≡ 0) (G0 s)
  pub message-G1 : (i : ℕ) → i < s.k → products (M s) (get_or (G1 s) i 0) ≡ 2 ^ i
  pub message-G0 : All (λ g. products (M s) g ≡ 0) (G0 s)
  pub free-G0 : Free (G0 s)
  pub free-H : Free (H s)
