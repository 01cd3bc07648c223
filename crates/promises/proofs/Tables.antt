-- Request 4's promises: any tables of the right sizes give a sheet that is admitted; from tables to the sheet and back nothing is lost; a sheet of the shape
-- gives exactly its tables; and the sheet that is built anew of them has the same G1 and G0. All of what the lent rooms hold. Assumes nothing.
use mathlib.Core.Path.{◌≡◌, sym, ap, ◌∙◌, subst}
use mathlib.Core.List.{List, []}
use Prim.Native.Nat.{ℕ, ◌+◌}
use lib.ListN.{length}
use Rattle.paper.specs.Promised.{Systematic}
use Rattle.paper.specs.Refusals.{Told, answer, leaves}
use Rattle.paper.specs.Sheet.{Sheet, sheet, G1, G0, Admitted}
use Rattle.paper.specs.Tables.{built, builds, table_p, table_r, table_q, gives}
use Rattle.blocks.specs.Counts.{Counted}
use Rattle.blocks.proofs.Counts.{tabled-counted}
use Rattle.building.proofs.Admitted.{built-admitted, built-systematic}
use Rattle.tables.proofs.Back.{only-P, only-R, only-Q}
use Rattle.promises.proofs.TableOrder.{build-done, tables-done}

-- ---- from tables to the sheet

module _ (n k l : ℕ) (P R Q room : List ℕ) where
  -- the sheet that the room holds after building in it
  abbrev pub made : Sheet
  made = sheet n k l (leaves (builds n k l P R Q room) (built n k l P R Q) room)

  module _ (done : builds n k l P R Q room ≡ answer []) where
    is-built : made ≡ sheet n k l (built n k l P R Q)
    is-built = ap (λ (t : Told). sheet n k l (leaves t (built n k l P R Q) room)) done

    -- "Any tables of the right sizes give a sheet that is admitted"
    pub build-admitted : Admitted made
    build-admitted = subst Admitted (sym is-built) (built-admitted n k l P R Q ((build-done n k l P R Q room).0 done).0)

    -- and it has the shape, with these tables
    pub build-systematic : Systematic made P R Q
    build-systematic =
        subst (λ (s : Sheet). Systematic s P R Q) (sym is-built) (built-systematic n k l P R Q ((build-done n k l P R Q room).0 done).0)

-- ---- and back

-- rooms of k, l and l rows are lent: what they hold after asking for the tables of s
module _ (s : Sheet) (p r q : List ℕ) (rooms : Counted s.k s.l (length p) (length r) (length q)) where
  abbrev pub told : Told
  told = gives s (length p) (length r) (length q)

  -- "an admitted sheet whose G1 and G0 have that shape gives its tables back": exactly these
  pub gives_back : (P R Q : List ℕ) → Admitted s → Systematic s P R Q
      → (told ≡ answer []) × (leaves told (table_p s) p ≡ P) × (leaves told (table_r s) r ≡ R) × (leaves told (table_q s) q ≡ Q)
  gives_back P R Q ok h = (
    done,
    ap (λ (t : Told). leaves t (table_p s) p) done ∙ only-P s P R Q h,
    ap (λ (t : Told). leaves t (table_r s) r) done ∙ only-R s P R Q h,
    ap (λ (t : Told). leaves t (table_q s) q) done ∙ only-Q s P R Q h,
  )
    where
      stands : Systematic s (table_p s) (table_r s) (table_q s)
      stands = rw (only-P s P R Q h, only-R s P R Q h, only-Q s P R Q h) h

      done : told ≡ answer []
      done = (tables-done s (length p) (length r) (length q)).1 (tabled-counted s.k s.l (length p) (length r) (length q) rooms, ok, stands)

  -- from the sheet to its tables and to the sheet built of what the rooms hold: it is built, and has the same G1 and G0. H and M may be other ones (Alike)
  pub rebuilt : told ≡ answer [] → (room : List ℕ) → length room ≡ s.n + s.k
      → let P = leaves told (table_p s) p in
      let R = leaves told (table_r s) r in
      let Q = leaves told (table_q s) q in
      let again = made s.n s.k s.l P R Q room in
      (builds s.n s.k s.l P R Q room ≡ answer []) × (G1 again ≡ G1 s) × (G0 again ≡ G0 s)
  rebuilt done room h =
      let P = leaves told (table_p s) p in
      let R = leaves told (table_r s) r in
      let Q = leaves told (table_q s) q in
      let stands : Systematic s P R Q = subst (λ (t : Told). Systematic s (leaves t (table_p s) p) (leaves t (table_r s) r) (leaves t (table_q s) q)) (sym done)
      ((tables-done s (length p) (length r) (length q)).0 done).2 in
      let answered = (build-done s.n s.k s.l P R Q room).1 (stands.fits, h) in
      let Made-so = build-systematic s.n s.k s.l P R Q room answered in
      (answered, Made-so.is-G1 ∙ sym stands.is-G1, Made-so.is-G0 ∙ sym stands.is-G0)

-- from tables to the sheet and back: the rooms hold the tables that it was built of
pub tables-back : (n k l : ℕ) (P R Q room : List ℕ) → builds n k l P R Q room ≡ answer []
    → (p r q : List ℕ) (rooms : Counted k l (length p) (length r) (length q))
    → let s = made n k l P R Q room in
    let t = gives s (length p) (length r) (length q) in
    (t ≡ answer []) × (leaves t (table_p s) p ≡ P) × (leaves t (table_r s) r ≡ R) × (leaves t (table_q s) q ≡ Q)
tables-back n k l P R Q room done p r q rooms =
    gives_back (made n k l P R Q room) p r q rooms P R Q (build-admitted n k l P R Q room done) (build-systematic n k l P R Q room done)
