-- What every read does first: 10 and 11 as one chain, and a radius that passes them.
-- For the proofs of the two reads. Assumes nothing.
use mathlib.Core.Path.{◌≡◌, refl}
use mathlib.Core.List.{[]}
use Prim.Native.Nat.{ℕ, ◌≤◌}
use borrow.Author.Tests.{leb-true, le-leb}
use lib.Dec.{leb}
use Rattle.paper.specs.First.{first}
use Rattle.paper.specs.Reading.{most_radius, stray_cell}
use Rattle.paper.specs.Refusals.{answer, unless}
use Rattle.paper.specs.Words.{width}
use Rattle.rules.proofs.Rules.{past, past-at}
use Rattle.rules.proofs.Stages.{Stage, unless-stage, unless_at-stage, then}
use Rattle.reading.specs.Steps.{readable}

module _ (n y t : ℕ) where
  -- rules 10 and 11 as one chain
  pub readable-stage : Stage (readable n y t)
  readable-stage = then (unless_at-stage (first width (stray_cell n y)) 10 0) (unless-stage (leb t most_radius) 11)

  -- a radius that passes them is one of 0 to 4
  pub radius-passed : readable n y t (answer []) ≡ answer [] → t ≤ most_radius
  radius-passed e =
      let p = (past-at 10 (unless (leb t most_radius) 11 (answer [])) (first width (stray_cell n y)) 0 (answer []) refl).0 e in
      ((past 11 (answer []) (leb t most_radius) (leb-true t most_radius, le-leb t most_radius) (answer []) refl).0 p.1).0
