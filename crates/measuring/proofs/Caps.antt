-- The caps that rule 11 lets pass.
-- For the judgement of the cap, and for what a measurement's answer says of it. Assumes nothing.
use mathlib.Core.Path.{◌≡◌}
use mathlib.Core.Bool.{true}
use mathlib.Core.Logic.{◌↔◌}
use Prim.Native.Nat.{ℕ, ◌≤◌}
use Rattle.paper.specs.Plate.{most_cap, capped}
use Rattle.rules.proofs.Both.{both}

-- 11: "a cap of 1 to 8"
pub capped-true : (cap : ℕ) → (capped cap ≡ true) ↔ ((1 ≤ cap) × (cap ≤ most_cap))
capped-true cap = both 1 cap cap most_cap
