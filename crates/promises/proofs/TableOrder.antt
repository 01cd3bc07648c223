-- The refusals of building a sheet and of asking for its tables, each exactly when: "Wrong sizes are refusal 1, lent rooms too", "Stray bits are refusal 2,
-- with the row counted through P, then R, then Q", and "24, after 1 to 6". For request 4. Assumes nothing.
use mathlib.Core.Path.{◌≡◌, refl, sym, ap, ◌∙◌}
use mathlib.Core.Bool.{Bool, true, false, ◌&&◌, and-eq-true_iff, true≢false}
use mathlib.Core.Logic.Iff
use mathlib.Core.Logic.{◌⊎◌, inl, inr, ◌↔◌}
use mathlib.Core.List.{List, [], ◌∷◌}
use Prim.Native.Nat.{ℕ, ◌+◌, ◌-◌, ◌^◌, ◌≤◌, ◌<◌}
use native.Mathlib.Nat.{zero-add}
use native.Mathlib.Omega.{arith}
use borrow.Author.Tests.{lt-leb, leb-true, leb-false, ne_eqb}
use lib.Dec.{leb}
use lib.ListN.{length, get_or}
use Rattle.paper.specs.First.{First, nowhere, at, first}
use Rattle.paper.specs.Promised.{Fits, Systematic}
use Rattle.paper.specs.Refusals.{Told, answer, refusal, unless, unless_at}
use Rattle.paper.specs.Sheet.{Sheet, sheet, shaped, admits, Admitted}
use Rattle.paper.specs.Tables.{tabled, stray_in, builds_sized, builds, table_p, table_r, table_q, systematic, gives_admitted, gives}
use Rattle.words.proofs.Firsts.{none_below}
use Rattle.rules.proofs.Chains.{then-1, or_else}
use Rattle.rules.proofs.Rules.{is_refusal, of_sheet, either, either-at, past, past-at, own, own-or, own-at-or}
use Rattle.sheet.proofs.Verdicts.{sound, shaped-facts, past-judged, sheet-told}
use Rattle.blocks.proofs.Counts.{counted, tabled-counted}
use Rattle.building.proofs.Sizes.{fits-of, fits-shaped}
use Rattle.tables.proofs.Back.{has-shape, tables-of}
use Rattle.promises.proofs.Tests.{fails}

-- ---- building

module _ (n k l : ℕ) (P R Q room : List ℕ) where
  -- all sizes are right: of the sheet, of its room, and of the tables
  abbrev pub sizes : Bool
  sizes = shaped (sheet n k l room) && tabled k l (length P) (length R) (length Q)

  -- the first row of each table with stray bits
  abbrev pub stray-P : First
  stray-P = first (length P) (stray_in (n - (k + l)) P)

  abbrev pub stray-R : First
  stray-R = first (length R) (stray_in k R)

  abbrev pub stray-Q : First
  stray-Q = first (length Q) (stray_in (n - (k + l)) Q)

  -- what is told from Q, R and P on
  abbrev from-Q : Told
  from-Q = unless_at stray-Q 2 (k + l) (answer [])

  abbrev from-R : Told
  from-R = unless_at stray-R 2 k from-Q

  abbrev from-P : Told
  from-P = unless_at stray-P 2 0 from-R

  -- what holds of 2 and of an answer holds of what they tell
  either-P : (A : Told → Type 0) → ((given : List ℕ) → A (refusal 2 given)) → A (answer []) → A from-P
  either-P A two done =
      either-at 2 from-R A stray-P 0 two (either-at 2 from-Q A stray-R k two (either-at 2 (answer []) A stray-Q (k + l) two done))

  -- "Wrong sizes are refusal 1, lent rooms too"
  pub build-1 : (builds n k l P R Q room ≡ refusal 1 []) ↔ (sizes ≡ false)
  unfolding builds builds_sized
  build-1 = own 1 from-P sizes Iff.rfl (either-P (λ t. is_refusal 1 t ≡ false) (λ given. refl) refl)

  -- "Stray bits are refusal 2, with the row counted through P, then R, then Q"
  pub build-2 : (row : ℕ) → (builds n k l P R Q room ≡ refusal 2 (row ∷ []))
      ↔ ((sizes ≡ true)
      × ((stray-P ≡ at row)
      ⊎ ((stray-P ≡ nowhere)
      × (((j : ℕ) × (stray-R ≡ at j) × (k + j ≡ row))
      ⊎ ((stray-R ≡ nowhere) × ((j : ℕ) × (stray-Q ≡ at j) × (k + l + j ≡ row)))))))
  unfolding builds builds_sized
  build-2 row =
      then-1 (past 1 from-P sizes Iff.rfl (refusal 2 (row ∷ [])) refl)
      (or_else (own-at-or 2 from-R stray-P 0 row) in-P Iff.rfl (or_else (own-at-or 2 from-Q stray-R k row) Iff.rfl Iff.rfl in-Q))
    where
      -- P's rows are counted from 0
      in-P : ((i : ℕ) × (stray-P ≡ at i) × (0 + i ≡ row)) ↔ (stray-P ≡ at row)
      in-P = (λ q. q.1 ∙ ap at (sym (zero-add q.0) ∙ q.2), λ e. (row, e, zero-add row))

      -- and none comes after Q's
      in-Q : (from-Q ≡ refusal 2 (row ∷ [])) ↔ ((j : ℕ) × (stray-Q ≡ at j) × (k + l + j ≡ row))
      in-Q = (
        λ e. elim ((own-at-or 2 (answer []) stray-Q (k + l) row).0 e) [ inl q ↦ q | inr q ↦ (let z : ◌≡◌ {A = ℕ} 0 1 = cc q.1 in absurd (omega arith)) ],
        λ q. (own-at-or 2 (answer []) stray-Q (k + l) row).1 (inl q),
      )

  -- "Any tables of the right sizes give a sheet", and nothing else does
  pub build-done : (builds n k l P R Q room ≡ answer []) ↔ (Fits n k l P R Q × (length room ≡ n + k))
  unfolding builds builds_sized
  build-done = (to, from)
    where
      none : (m : ℕ) (rows : List ℕ) (count : ℕ) → length rows ≡ count → ((i : ℕ) → i < count → get_or rows i 0 < 2 ^ m)
          → first (length rows) (stray_in m rows) ≡ nowhere
      none m rows count q h = none_below (stray_in m rows) (length rows) (λ i l. lt-leb (2 ^ m) (get_or rows i 0) (h i (omega (arith, q))))

      to : unless sizes 1 from-P ≡ answer [] → Fits n k l P R Q × (length room ≡ n + k)
      to e =
          let a = (past 1 from-P sizes Iff.rfl (answer []) refl).0 e in
          let p = (past-at 2 from-R stray-P 0 (answer []) refl).0 a.1 in
          let q = (past-at 2 from-Q stray-R k (answer []) refl).0 p.1 in
          let t = (past-at 2 (answer []) stray-Q (k + l) (answer []) refl).0 q.1 in
          let b = (and-eq-true_iff (shaped (sheet n k l room)) (tabled k l (length P) (length R) (length Q))).0 a.0 in
          let z = shaped-facts (sheet n k l room) b.0 in
          (fits-of n k l P R Q room z (counted k l (length P) (length R) (length Q) b.1) p.0 q.0 t.0, z.all-rows)

      from : Fits n k l P R Q × (length room ≡ n + k) → unless sizes 1 from-P ≡ answer []
      from h =
          let f = h.0 in
          let counts = tabled-counted k l (length P) (length R) (length Q) (record { rows-P = f.rows-P; rows-R = f.rows-R; rows-Q = f.rows-Q }) in
          rw (
            fits-shaped n k l P R Q room f h.1,
            counts,
            none (n - (k + l)) P k f.rows-P f.columns-P,
            none k R l f.rows-R f.columns-R,
            none (n - (k + l)) Q l f.rows-Q f.columns-Q,
          )

  -- no other number
  pub build-tells : (number : ℕ) (given : List ℕ) → builds n k l P R Q room ≡ refusal number given → (1 ≤ number) × (number ≤ 2)
  unfolding builds builds_sized
  build-tells number given =
      either 1 from-P Own sizes (λ e. let z : 1 ≡ number = cc in (omega arith, omega arith))
      (either-P Own (λ given e. let z : 2 ≡ number = cc in (omega arith, omega arith)) (λ e. let z : ◌≡◌ {A = ℕ} 0 1 = cc in absurd (omega arith)))
    where
      Own : Told → Type 0
      Own t = t ≡ refusal number given → (1 ≤ number) × (number ≤ 2)

-- ---- the tables of a sheet

module _ (s : Sheet) (for_p for_r for_q : ℕ) where
  -- the rooms are right: "k, l and l for tables given back"
  abbrev pub rooms : Bool
  rooms = tabled s.k s.l for_p for_r for_q

  -- what is told past the sheet's rules is none of their numbers
  late : (A : Told → Type 0) → A (refusal 24 []) → A (answer []) → A (gives_admitted s)
  unfolding gives_admitted
  late A = either 24 (answer []) A (systematic s)

  -- 1, also for the rooms
  pub tables-1 : (gives s for_p for_r for_q ≡ refusal 1 []) ↔ ((rooms ≡ false) ⊎ ((rooms ≡ true) × (admits s ≡ refusal 1 [])))
  unfolding gives
  tables-1 =
      let j = sheet-told s (gives_admitted s) (late (λ t. of_sheet t ≡ false) refl refl) 1 [] (omega arith) in
      let i = own-or 1 _ rooms in (
        λ e. elim (i.0 e) [ inl a ↦ inl a | inr b ↦ inr (b.0, j.0 b.1) ],
        λ p. i.1 (elim p [ inl a ↦ inl a | inr b ↦ inr (b.0, j.1 b.1) ]),
      )

  -- 2 to 6, as admission tells them
  pub tables-sheet : (number : ℕ) (given : List ℕ) → 2 ≤ number → number ≤ 6
      → (gives s for_p for_r for_q ≡ refusal number given) ↔ ((rooms ≡ true) × (admits s ≡ refusal number given))
  unfolding gives
  tables-sheet number given h m =
      then-1 (past 1 _ rooms Iff.rfl (refusal number given) (ne_eqb number 1 (λ e. omega arith)))
      (sheet-told s (gives_admitted s) (late (λ t. of_sheet t ≡ false) refl refl) number given m)

  -- the test of the shape
  other : (unless (systematic s) 24 (answer []) ≡ refusal 24 []) ↔ (systematic s ≡ false)
  other = own 24 (answer []) (systematic s) Iff.rfl refl

  -- "Asking an admitted sheet of another shape for its tables is refusal 24, after 1 to 6": there are no tables with which it has the shape
  pub tables-24 : (gives s for_p for_r for_q ≡ refusal 24 []) ↔ ((rooms ≡ true) × Admitted s × ((P R Q : List ℕ) → Systematic s P R Q → ⊥))
  unfolding gives gives_admitted
  tables-24 =
      let t : Told = refusal 24 [] in
      let i = past 1 _ rooms Iff.rfl t refl in
      let j = past-judged s (unless (systematic s) 24 (answer [])) t refl in (
        λ e.
            let a = i.0 e in
            let b = j.0 a.1 in
            (a.0, b.0, λ P R Q h. true≢false (sym (has-shape s P R Q h) ∙ other.0 b.1)),
        λ p. i.1 (p.0, j.1 (p.1, other.1 (fails (systematic s) (λ e. p.2 _ _ _ (tables-of s (sound s p.1) e))))),
      )

  -- "an admitted sheet whose G1 and G0 have that shape gives its tables back", and no other: those that stand in it
  pub tables-done : (gives s for_p for_r for_q ≡ answer []) ↔ ((rooms ≡ true) × Admitted s × Systematic s (table_p s) (table_r s) (table_q s))
  unfolding gives gives_admitted
  tables-done =
      let t : Told = answer [] in
      let i = past 1 _ rooms Iff.rfl t refl in
      let j = past-judged s (unless (systematic s) 24 (answer [])) t refl in
      let h = past 24 (answer []) (systematic s) Iff.rfl t refl in (
        λ e.
            let a = i.0 e in
            let b = j.0 a.1 in
            (a.0, b.0, tables-of s (sound s b.0) (h.0 b.1).0),
        λ p. i.1 (p.0, j.1 (p.1, h.1 (has-shape s _ _ _ p.2, refl))),
      )

  -- no other number
  pub tables-tells : (number : ℕ) (given : List ℕ) → gives s for_p for_r for_q ≡ refusal number given → (number ≤ 6) ⊎ (number ≡ 24)
  unfolding gives
  tables-tells number given e = go (leb number 6) refl
    where
      go : (b : Bool) → leb number 6 ≡ b → (number ≤ 6) ⊎ (number ≡ 24)
      go true h = inl (leb-true number 6 h)
      go false h =
          let a = (past 1 _ rooms Iff.rfl (refusal number given) (ne_eqb number 1 (λ q. omega (arith, leb-false number 6 h)))).0 e in
          let b = (past-judged s (gives_admitted s) (refusal number given) h).0 a.1 in
          inr (late (λ t. t ≡ refusal number given → number ≡ 24) (λ q. cc) (λ q. let z : ◌≡◌ {A = ℕ} 0 1 = cc in absurd (omega arith)) b.1)
