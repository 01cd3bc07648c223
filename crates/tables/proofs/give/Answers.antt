-- `give` meets its contract: the shape of G1 and of G0, and then the tables.
use mathlib.Core.Path.{◌≡◌, refl, sym, ap, ap₂, ◌∙◌, subst}
use mathlib.Core.Bool.{Bool, true, false, ◌&&◌}
use mathlib.Core.List.{List, [], map}
use Prim.Native.Nat.{ℕ, ◌+◌}
use Rattle.paper.specs.Refusals.{answer, refusal}
use Rattle.paper.specs.Sheet.{Sheet, r, G1, G0}
use Rattle.paper.specs.Tables.{cells, gives_admitted}
use Rattle.rules.proofs.Rooms.{room-left, room-filled}
use Rattle.rules.proofs.Rules.{unless-stop, unless-pass}
use Rattle.sheet.specs.Sound.{Sound}
use Rattle.tables.specs.Identities.{identity_at}
use Rattle.tables.proofs.Shape.{same_shape}
use Rattle.tables.proofs.give.Goals as goal

-- what the code found in the rows of G1 and of G0, of a sound sheet, decides as the definition does
module _ (s : Sheet) (ok : Sound s) {b1 : Bool} (found-G1 : b1 ≡ identity_at 0 (s.k + s.l) (G1 s)) where
  no-G1 : b1 ≡ false → refusal 24 [] ≡ gives_admitted s
  unfolding gives_admitted
  no-G1 e = unless-stop 24 _ (sym (same_shape s ok) ∙ ap (λ (b : Bool). b && identity_at s.k s.l (G0 s)) (sym found-G1 ∙ e))

  module _ {b0 : Bool} (found-G0 : b0 ≡ identity_at s.k s.l (G0 s)) (yes : b1 ≡ true) where
    no-G0 : b0 ≡ false → refusal 24 [] ≡ gives_admitted s
    unfolding gives_admitted
    no-G0 e = unless-stop 24 _ (sym (same_shape s ok) ∙ ap₂ ◌&&◌ (sym found-G1 ∙ yes) (sym found-G0 ∙ e))

    both : b0 ≡ true → answer [] ≡ gives_admitted s
    unfolding gives_admitted
    both e = unless-pass 24 _ (sym (same_shape s ok) ∙ ap₂ ◌&&◌ (sym found-G1 ∙ yes) (sym found-G0 ∙ e)) refl

-- the code's test of g1 or g0, by the fields of the sheet that was lent, is that of the sheet's part
in-G1 : {i s : Sheet} {g : List ℕ} {b : Bool} → i ≡ s → g ≡ G1 s → b ≡ identity_at 0 (i.k + i.l) g → b ≡ identity_at 0 (s.k + s.l) (G1 s)
in-G1 v own e = e ∙ ap₂ (λ (s : Sheet) (g : List ℕ). identity_at 0 (s.k + s.l) g) v own

in-G0 : {i s : Sheet} {g : List ℕ} {b : Bool} → i ≡ s → g ≡ G0 s → b ≡ identity_at i.k i.l g → b ≡ identity_at s.k s.l (G0 s)
in-G0 v own e = e ∙ ap₂ (λ (s : Sheet) (g : List ℕ). identity_at s.k s.l g) v own

pub returns-then-not-is_identity : goal.returns-then-not-is_identity
returns-then-not-is_identity c =
    let v = c.sheet.view_is in
    let e = no-G1 _ (subst Sound v c.sheet.invariant) (in-G1 v c.g1-g1.ensures.rows c.is_identity.ensures) c.if-not-is_identity.true in
    record { result_value = e; p_after = room-left _ _ e; r_after = room-left _ _ e; q_after = room-left _ _ e }

pub returns-then-not-is_identity-2 : goal.returns-then-not-is_identity-2
returns-then-not-is_identity-2 c =
    let v = c.sheet.view_is in
    let e =
    no-G0 _ (subst Sound v c.sheet.invariant) (in-G1 v c.g1-g1.ensures.rows c.is_identity.ensures)
    (in-G0 v c.g0-g0.ensures.rows c.is_identity-2.ensures) c.if-not-is_identity.false c.if-not-is_identity-2.true in
    record { result_value = e; p_after = room-left _ _ e; r_after = room-left _ _ e; q_after = room-left _ _ e }

pub returns : goal.returns
returns c =
    let v = c.sheet.view_is in
    let e =
    both _ (subst Sound v c.sheet.invariant) (in-G1 v c.g1-g1.ensures.rows c.is_identity.ensures)
    (in-G0 v c.g0-g0.ensures.rows c.is_identity-2.ensures) c.if-not-is_identity.false c.if-not-is_identity-2.false in
    record {
      result_value = e;
      p_after = c.put_cells.ensures ∙ ap₂ (λ (s : Sheet) (g : List ℕ). map (cells (s.k + s.l) (r s)) g) v c.g1-g1.ensures.rows ∙ room-filled _ _ e;
      r_after = c.put_cells-2.ensures ∙ ap₂ (λ (s : Sheet) (g : List ℕ). map (cells 0 s.k) g) v c.g0-g0.ensures.rows ∙ room-filled _ _ e;
      q_after = c.put_cells-3.ensures ∙ ap₂ (λ (s : Sheet) (g : List ℕ). map (cells (s.k + s.l) (r s)) g) v c.g0-g0.ensures.rows ∙ room-filled _ _ e;
    }
