-- Records in one list after another: which are the slot's own, what they gather to, and who disagrees with them.
-- For the steps in which records are gathered, and for what a record more or less changes. Assumes nothing.
use mathlib.Core.Path.{◌≡◌, refl, sym, ap, ◌∙◌}
use mathlib.Core.Bool.{Bool, true, false, cond, not, ◌&&◌, ◌||◌, or_assoc as or-assocᵇ}
use mathlib.Core.List.{List, [], ◌∷◌, ◌++◌}
use Prim.Native.Nat.{ℕ, ◌*◌, ◌^◌}
use borrow.Author.Tests.{eq-eqb, ne_eqb}
use lib.Bits.{bit_or}
use lib.Dec.{eqb}
use Rattle.paper.specs.Page.{records_of, disagrees, stuck_by, levels_by}
use Rattle.paper.specs.declared.StuckCell.{StuckCell}
use Rattle.words.proofs.Cells.{or_assoc}

-- ---- this slot's records

module _ (slot : ℕ) where
  -- those of two lists, one after the other
  pub records-append : (rs rs' : List StuckCell) → records_of slot (rs ++ rs') ≡ records_of slot rs ++ records_of slot rs'
  records-append [] rs' = refl
  records-append (r ∷ rs) rs' = go (eqb r.slot slot) (records-append rs rs')
    where
      go : (b : Bool) → records_of slot (rs ++ rs') ≡ records_of slot rs ++ records_of slot rs'
          → cond b (r ∷ records_of slot (rs ++ rs')) (records_of slot (rs ++ rs')) ≡ cond b (r ∷ records_of slot rs) (records_of slot rs) ++ records_of slot rs'
      go true e = ap (λ (v : List StuckCell). r ∷ v) e
      go false e = e

  -- a record for this slot is one
  pub record-own : (r : StuckCell) (rs : List StuckCell) → r.slot ≡ slot → records_of slot (r ∷ rs) ≡ r ∷ records_of slot rs
  record-own r rs e = rw (eq-eqb r.slot slot e)

  -- a record for another slot is none of them
  pub record-other : (r : StuckCell) (rs : List StuckCell) → (r.slot ≡ slot → ⊥) → records_of slot (r ∷ rs) ≡ records_of slot rs
  record-other r rs ne = rw (ne_eqb r.slot slot ne)

-- ---- what records gather to

pub stuck-append : (rs rs' : List StuckCell) → stuck_by (rs ++ rs') ≡ bit_or (stuck_by rs) (stuck_by rs')
stuck-append [] rs' = refl
stuck-append (r ∷ rs) rs' = ap (bit_or (2 ^ r.cell)) (stuck-append rs rs') ∙ sym (or_assoc (2 ^ r.cell) (stuck_by rs) (stuck_by rs'))

pub levels-append : (rs rs' : List StuckCell) → levels_by (rs ++ rs') ≡ bit_or (levels_by rs) (levels_by rs')
levels-append [] rs' = refl
levels-append (r ∷ rs) rs' = ap (bit_or (r.level * 2 ^ r.cell)) (levels-append rs rs') ∙ sym (or_assoc (r.level * 2 ^ r.cell) (levels_by rs) (levels_by rs'))

pub disagrees-append : (rs rs' : List StuckCell) (c : StuckCell) → disagrees (rs ++ rs') c ≡ (disagrees rs c || disagrees rs' c)
disagrees-append [] rs' c = refl
disagrees-append (r ∷ rs) rs' c =
    let b : Bool = eqb r.cell c.cell && not (eqb r.level c.level) in
    ap (λ (x : Bool). b || x) (disagrees-append rs rs' c) ∙ sym (or-assocᵇ b (disagrees rs c) (disagrees rs' c))
