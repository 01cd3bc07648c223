-- "For each public call, any two results allowed by its contract, memory included, are shown to be the same result": building a sheet, and asking for its tables.
-- A contract says what is told of the result and what each lent room holds after; all else is lent by `&`. Assumes nothing.
use mathlib.Core.Path.{◌≡◌, sym, ◌∙◌}
use mathlib.Core.List.{List}
use Prim.Native.Nat.{ℕ}
use lib.ListN.{length}
use Rattle.paper.specs.Refusals.{outcome, leaves}
use Rattle.paper.specs.Sheet.{Sheet}
use Rattle.paper.specs.Tables.{built, builds, table_p, table_r, table_q, gives}
use Rattle.paper.specs.declared.Outcome.{Outcome}
use Rattle.promises.proofs.Pinned.{outcome-once}

-- what `build`'s contract allows: an outcome, and the room after
pub record Builds (n k l : ℕ) (P R Q room : List ℕ) (o : Outcome) (after : List ℕ) : Type 0 where
  pub told : outcome o ≡ builds n k l P R Q room
  pub left : after ≡ leaves (builds n k l P R Q room) (built n k l P R Q) room

pub build-pinned : {n k l : ℕ} {P R Q room : List ℕ} {a b : Outcome} {after after' : List ℕ}
    → Builds n k l P R Q room a after → Builds n k l P R Q room b after' → (a ≡ b) × (after ≡ after')
build-pinned x y = (outcome-once _ _ _ x.told y.told, x.left ∙ sym y.left)

-- what `tables`' contract allows: an outcome, and the three rooms after
pub record Gives (s : Sheet) (p r q : List ℕ) (o : Outcome) (p' r' q' : List ℕ) : Type 0 where
  pub told : outcome o ≡ gives s (length p) (length r) (length q)
  pub left-P : p' ≡ leaves (gives s (length p) (length r) (length q)) (table_p s) p
  pub left-R : r' ≡ leaves (gives s (length p) (length r) (length q)) (table_r s) r
  pub left-Q : q' ≡ leaves (gives s (length p) (length r) (length q)) (table_q s) q

pub tables-pinned : {s : Sheet} {p r q : List ℕ} {a b : Outcome} {p₁ r₁ q₁ p₂ r₂ q₂ : List ℕ}
    → Gives s p r q a p₁ r₁ q₁ → Gives s p r q b p₂ r₂ q₂ → (a ≡ b) × (p₁ ≡ p₂) × (r₁ ≡ r₂) × (q₁ ≡ q₂)
tables-pinned x y = (
  outcome-once _ _ _ x.told y.told,
  x.left-P ∙ sym y.left-P,
  x.left-R ∙ sym y.left-R,
  x.left-Q ∙ sym y.left-Q,
)
