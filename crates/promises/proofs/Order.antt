-- "Each refusal is given exactly when its reason holds and no earlier one in the call's order does": each number from both sides,
-- 1 to 6 of admission and alike of every call, then 7 to 12. For demand 1's numbered refusals and demand 2's "only if". Assumes nothing.
use mathlib.Core.Path.{◌≡◌, refl, sym, ap}
use mathlib.Core.Bool.{true, false}
use mathlib.Core.Logic.Iff
use mathlib.Core.Logic.{◌⊎◌, ◌↔◌}
use mathlib.Core.List.{List, [], ◌∷◌}
use Prim.Native.Nat.{ℕ, ◌+◌, ◌^◌, ◌≤◌, ◌<◌}
use native.Mathlib.Nat.{zero-add}
use native.Mathlib.Omega.{arith}
use borrow.Author.Tests.{ltb-true, ltb-false, lt-ltb, le-ltb, leb-false, lt-leb}
use lib.Dec.{eqb, leb, ltb}
use Rattle.paper.specs.First.{First, nowhere, at, first}
use Rattle.paper.specs.Words.{width}
use Rattle.paper.specs.Listing.{Search, found, missed}
use Rattle.paper.specs.Refusals.{Told, answer, more, refusal, unless, unless_at}
use Rattle.paper.specs.Sheet.{Sheet, shaped, judged_sums, judged_rows, judged, admits, Admitted}
use Rattle.paper.specs.Writing.{word_of, fits, misplaced, fitting, chosen, writes_admitted, writes}
use Rattle.paper.specs.Reading.{most_radius, stray_cell, nearest, heard, reads_admitted, reads}
use Rattle.paper.specs.Plate.{most_cap, search_d0, search_d1, plate_d0, plate_d1, capped, measures_admitted_d0, measures_admitted_d1, measures_d0, measures_d1}
use Rattle.words.proofs.Firsts.{none_below, first-all}
use Rattle.rules.proofs.Both.{outside}
use Rattle.rules.proofs.Rules.{is_refusal, of_sheet, not-told, either, either-at, past, past-at, own, own_at}
use Rattle.rules.proofs.Chains.{then-1, then-2, then-3, last-3}
use Rattle.sheet.proofs.Verdicts.{stray-row, code_row, message-row, G0-row, H-row, past-judged, sheet-told}
use Rattle.promises.proofs.Answers.{write-told, read_told}

-- ---- 1 to 6: "the row given is the first row in sheet order at which the rule breaks; a rule is tried on all rows before the next rule"

module _ (s : Sheet) where
  -- what is told from rule 6, 5, 4, 3, 2 on
  abbrev from-6 : Told
  from-6 = unless_at (H-row s) 6 (s.k + s.l) (answer [])

  abbrev from-5 : Told
  from-5 = unless_at (G0-row s) 5 s.k from-6

  abbrev from-4 : Told
  from-4 = unless_at (message-row s) 4 0 from-5

  abbrev from-3 : Told
  from-3 = unless_at (code_row s) 3 0 from-4

  abbrev from-2 : Told
  from-2 = unless_at (stray-row s) 2 0 from-3

  -- none tells a number that none of its rules has
  other-6 : (m : ℕ) → eqb 6 m ≡ false → is_refusal m from-6 ≡ false
  other-6 m h = either-at 6 (answer []) (λ t. is_refusal m t ≡ false) (H-row s) (s.k + s.l) (λ given. h) refl

  other-5 : (m : ℕ) → eqb 5 m ≡ false → eqb 6 m ≡ false → is_refusal m from-5 ≡ false
  other-5 m h h6 = either-at 5 from-6 (λ t. is_refusal m t ≡ false) (G0-row s) s.k (λ given. h) (other-6 m h6)

  other-4 : (m : ℕ) → eqb 4 m ≡ false → eqb 5 m ≡ false → eqb 6 m ≡ false → is_refusal m from-4 ≡ false
  other-4 m h h5 h6 = either-at 4 from-5 (λ t. is_refusal m t ≡ false) (message-row s) 0 (λ given. h) (other-5 m h5 h6)

  other-3 : (m : ℕ) → eqb 3 m ≡ false → eqb 4 m ≡ false → eqb 5 m ≡ false → eqb 6 m ≡ false → is_refusal m from-3 ≡ false
  other-3 m h h4 h5 h6 = either-at 3 from-4 (λ t. is_refusal m t ≡ false) (code_row s) 0 (λ given. h) (other-4 m h4 h5 h6)

  other-2 : is_refusal 1 from-2 ≡ false
  other-2 = either-at 2 from-3 (λ t. is_refusal 1 t ≡ false) (stray-row s) 0 (λ given. refl) (other-3 1 refl refl refl refl)

  -- "n, k, l or the number of rows not as above"
  pub admit-1 : (admits s ≡ refusal 1 []) ↔ (shaped s ≡ false)
  unfolding judged judged_rows judged_sums
  admit-1 = own 1 from-2 (shaped s) Iff.rfl other-2

  module _ (row : ℕ) where
    -- "a row has a bit at cell n or above"
    pub admit-2 : (admits s ≡ refusal 2 (row ∷ [])) ↔ ((shaped s ≡ true) × (stray-row s ≡ at row))
    unfolding judged judged_rows judged_sums
    admit-2 =
        let t : Told = refusal 2 (row ∷ []) in
        then-1 (past 1 from-2 (shaped s) Iff.rfl t refl) (own_at 2 from-3 (stray-row s) 0 row row (zero-add row) (other-3 2 refl refl refl refl))

    -- "a row of G1 or G0 has product 1 with a row of H"
    pub admit-3 : (admits s ≡ refusal 3 (row ∷ [])) ↔ ((shaped s ≡ true) × (stray-row s ≡ nowhere) × (code_row s ≡ at row))
    unfolding judged judged_rows judged_sums
    admit-3 =
        let t : Told = refusal 3 (row ∷ []) in
        then-2 (past 1 from-2 (shaped s) Iff.rfl t refl) (past-at 2 from-3 (stray-row s) 0 t refl)
        (own_at 3 from-4 (code_row s) 0 row row (zero-add row) (other-4 3 refl refl refl))

    -- "a row of G1 or G0 breaks the rule with M"
    pub admit-4 : (admits s ≡ refusal 4 (row ∷ []))
        ↔ ((shaped s ≡ true) × (stray-row s ≡ nowhere) × (code_row s ≡ nowhere) × (message-row s ≡ at row))
    unfolding judged judged_rows judged_sums
    admit-4 =
        let t : Told = refusal 4 (row ∷ []) in
        then-3 (past 1 from-2 (shaped s) Iff.rfl t refl) (past-at 2 from-3 (stray-row s) 0 t refl)
        (past-at 3 from-4 (code_row s) 0 t refl) (own_at 4 from-5 (message-row s) 0 row row (zero-add row) (other-5 4 refl refl))

    -- "a row of G0 is a sum of earlier ones": `row` in G0, "numbered from 0 over the whole sheet"
    pub admit-5 : (admits s ≡ refusal 5 ((s.k + row) ∷ []))
        ↔ ((shaped s ≡ true) × (stray-row s ≡ nowhere) × (code_row s ≡ nowhere) × ((message-row s ≡ nowhere) × (G0-row s ≡ at row)))
    unfolding judged judged_rows judged_sums
    admit-5 =
        let t : Told = refusal 5 ((s.k + row) ∷ []) in
        then-3 (past 1 from-2 (shaped s) Iff.rfl t refl) (past-at 2 from-3 (stray-row s) 0 t refl)
        (past-at 3 from-4 (code_row s) 0 t refl)
        (then-1 (past-at 4 from-5 (message-row s) 0 t refl) (own_at 5 from-6 (G0-row s) s.k row (s.k + row) refl (other-6 5 refl)))

    -- "a row of H is a sum of earlier ones": `row` in H
    pub admit-6 : (admits s ≡ refusal 6 ((s.k + s.l + row) ∷ []))
        ↔ ((shaped s ≡ true) × (stray-row s ≡ nowhere) × (code_row s ≡ nowhere) × ((message-row s ≡ nowhere) × (G0-row s ≡ nowhere) × (H-row s ≡ at row)))
    unfolding judged judged_rows judged_sums
    admit-6 =
        let t : Told = refusal 6 ((s.k + s.l + row) ∷ []) in
        then-3 (past 1 from-2 (shaped s) Iff.rfl t refl) (past-at 2 from-3 (stray-row s) 0 t refl)
        (past-at 3 from-4 (code_row s) 0 t refl)
        (then-2 (past-at 4 from-5 (message-row s) 0 t refl) (past-at 5 from-6 (G0-row s) s.k t refl)
        (own_at 6 (answer []) (H-row s) (s.k + s.l) row (s.k + s.l + row) refl refl))

-- ---- 7 to 12

-- 9: "no word of the message fits"
pub unchosen : (s : Sheet) (w stuck levels : ℕ)
    → (chosen s w (fitting s w stuck levels) ≡ refusal 9 [])
    ↔ ((d : ℕ) → d < 2 ^ s.l → fits stuck levels (word_of s w d) ≡ false)
unchosen s w stuck levels = (λ e d. first-all _ (2 ^ s.l) d (none (fitting s w stuck levels) e), λ h. ap (chosen s w) (none_below _ (2 ^ s.l) h))
  where
    none : (f : First) → chosen s w f ≡ refusal 9 [] → f ≡ nowhere
    none nowhere e = refl
    none (at d) e = not-told (sym e) refl

-- 12: "no codeword within the radius"
pub unheard : (s : Sheet) (y : ℕ) (f : Search) (tried : ℕ) → (heard s y f ≡ refusal 12 (tried ∷ [])) ↔ (f ≡ missed tried)
unheard s y (found z u) tried = (λ e. not-told (sym e) refl, λ e. let z : ◌≡◌ {A = ℕ} 0 1 = cc in absurd (omega arith))
unheard s y (missed u) tried = (λ e. cc, λ e. cc)

module _ (s : Sheet) where
  module _ (w stuck levels : ℕ) where
    -- what is told of a write from rule 9 and from rule 8 on
    abbrev pub from-9 : Told
    from-9 = chosen s w (fitting s w stuck levels)

    abbrev from-8 : Told
    from-8 = unless_at (first width (misplaced s.n stuck levels)) 8 0 from-9

    -- what holds of refusal 9 and of every answer holds of what is told from rule 9 on
    pub either-9 : (P : Told → Type 0) → P (refusal 9 []) → ((values : List ℕ) → P (answer values)) → P from-9
    either-9 P n v = go (fitting s w stuck levels)
      where
        go : (f : First) → P (chosen s w f)
        go (at d) = v (word_of s w d ∷ d ∷ [])
        go nowhere = n

    either-8 : (P : Told → Type 0) → ((given : List ℕ) → P (refusal 8 given)) → P (refusal 9 []) → ((values : List ℕ) → P (answer values)) → P from-8
    either-8 P r n v = either-at 8 from-9 P (first width (misplaced s.n stuck levels)) 0 r (either-9 P n v)

    -- 1 to 6
    pub write-sheet : (number : ℕ) (given : List ℕ) → number ≤ 6 → (writes s w stuck levels ≡ refusal number given) ↔ (admits s ≡ refusal number given)
    unfolding writes writes_admitted
    write-sheet =
        sheet-told s _ (either 7 from-8 (λ t. of_sheet t ≡ false) (ltb w (2 ^ s.k)) refl (either-8 (λ t. of_sheet t ≡ false) (λ given. refl) refl (λ values. refl)))

    -- 7: "message is 2^k or more"
    pub write-7 : (writes s w stuck levels ≡ refusal 7 []) ↔ (Admitted s × (2 ^ s.k ≤ w))
    unfolding writes writes_admitted
    write-7 =
        then-1 (past-judged s _ (refusal 7 []) refl)
        (own 7 from-8 (ltb w (2 ^ s.k)) (ltb-false w (2 ^ s.k), le-ltb w (2 ^ s.k)) (either-8 (λ t. is_refusal 7 t ≡ false) (λ given. refl) refl (λ values. refl)))

    -- 8: "a stuck or level bit at cell n or above, or a level bit at a cell not stuck", with "the lowest such cell"
    pub write-8 : (c : ℕ) → (writes s w stuck levels ≡ refusal 8 (c ∷ []))
        ↔ (Admitted s × (w < 2 ^ s.k) × (first width (misplaced s.n stuck levels) ≡ at c))
    unfolding writes writes_admitted
    write-8 c =
        let t : Told = refusal 8 (c ∷ []) in
        then-2 (past-judged s _ t refl)
        (past 7 _ (ltb w (2 ^ s.k)) (ltb-true w (2 ^ s.k), lt-ltb w (2 ^ s.k)) t refl)
        (own_at 8 _ (first width (misplaced s.n stuck levels)) 0 c c (zero-add c) (either-9 (λ t. is_refusal 8 t ≡ false) refl (λ values. refl)))

    -- 9: "no word of the message fits"
    pub write-9 : (writes s w stuck levels ≡ refusal 9 [])
        ↔ (Admitted s × (w < 2 ^ s.k) × (first width (misplaced s.n stuck levels) ≡ nowhere)
        × ((d : ℕ) → d < 2 ^ s.l → fits stuck levels (word_of s w d) ≡ false))
    write-9 = last-3 (write-told s w stuck levels (refusal 9 []) refl refl refl) (unchosen s w stuck levels)

  module _ (y radius : ℕ) where
    -- what is told of a read from rule 12 and from rule 11 on
    abbrev pub from-12 : Told
    from-12 = heard s y (nearest s y radius)

    abbrev from-11 : Told
    from-11 = unless (leb radius most_radius) 11 from-12

    pub either-12 : (P : Told → Type 0) → ((given : List ℕ) → P (refusal 12 given)) → ((values : List ℕ) → P (answer values)) → P from-12
    either-12 P r v = go (nearest s y radius)
      where
        go : (f : Search) → P (heard s y f)
        go (found z tried) = v _
        go (missed tried) = r _

    either-11 : (P : Told → Type 0) → P (refusal 11 []) → ((given : List ℕ) → P (refusal 12 given)) → ((values : List ℕ) → P (answer values)) → P from-11
    either-11 P l r v = either 11 from-12 P (leb radius most_radius) l (either-12 P r v)

    -- and of a read on an admitted sheet
    either-10 : (P : Told → Type 0) → ((given : List ℕ) → P (refusal 10 given)) → P (refusal 11 []) → ((given : List ℕ) → P (refusal 12 given))
        → ((values : List ℕ) → P (answer values)) → P (reads_admitted s y radius)
    unfolding reads_admitted
    either-10 P c l r v = either-at 10 from-11 P (first width (stray_cell s.n y)) 0 c (either-11 P l r v)

    -- 1 to 6
    pub read-sheet : (number : ℕ) (given : List ℕ) → number ≤ 6 → (reads s y radius ≡ refusal number given) ↔ (admits s ≡ refusal number given)
    unfolding reads
    read-sheet = sheet-told s (reads_admitted s y radius) (either-10 (λ t. of_sheet t ≡ false) (λ given. refl) refl (λ given. refl) (λ values. refl))

    -- 10: "read word has a bit at cell n or above", with "the lowest such cell"
    pub read-10 : (c : ℕ) → (reads s y radius ≡ refusal 10 (c ∷ [])) ↔ (Admitted s × (first width (stray_cell s.n y) ≡ at c))
    unfolding reads reads_admitted
    read-10 c =
        then-1 (past-judged s _ (refusal 10 (c ∷ [])) refl)
        (own_at 10 _ (first width (stray_cell s.n y)) 0 c c (zero-add c) (either-11 (λ t. is_refusal 10 t ≡ false) refl (λ given. refl) (λ values. refl)))

    -- 11: "radius above 4"
    pub read-11 : (reads s y radius ≡ refusal 11 []) ↔ (Admitted s × (first width (stray_cell s.n y) ≡ nowhere) × (most_radius < radius))
    unfolding reads reads_admitted
    read-11 =
        then-2 (past-judged s _ (refusal 11 []) refl) (past-at 10 _ (first width (stray_cell s.n y)) 0 (refusal 11 []) refl)
        (own 11 _ (leb radius most_radius) (leb-false radius most_radius, lt-leb radius most_radius) (either-12 (λ t. is_refusal 11 t ≡ false) (λ given. refl) (λ values. refl)))

    -- 12: "no codeword within the radius", with the "number tried: all of the list"
    pub read-12 : (tried : ℕ) → (reads s y radius ≡ refusal 12 (tried ∷ []))
        ↔ (Admitted s × (first width (stray_cell s.n y) ≡ nowhere) × (radius ≤ most_radius) × (nearest s y radius ≡ missed tried))
    read-12 tried = last-3 (read_told s y radius (refusal 12 (tried ∷ [])) refl refl refl) (unheard s y (nearest s y radius) tried)

  -- a measurement tells no refusal past rule 11
  plate_d0-answers : (P : Told → Type 0) → ((values : List ℕ) → P (answer values)) → ((values : List ℕ) → P (more values)) → (f : Search) → P (plate_d0 f)
  plate_d0-answers P a m (found z tried) = a _
  plate_d0-answers P a m (missed tried) = m _

  plate_d1-answers : (P : Told → Type 0) → ((values : List ℕ) → P (answer values)) → ((values : List ℕ) → P (more values))
      → (cap : ℕ) (f : Search) → P (plate_d1 cap f)
  plate_d1-answers P a m cap (found z tried) = a _
  plate_d1-answers P a m cap (missed tried) = m _

  -- 1 to 6
  pub measure-d0-sheet : (cap number : ℕ) (given : List ℕ) → number ≤ 6 → (measures_d0 s cap ≡ refusal number given) ↔ (admits s ≡ refusal number given)
  unfolding measures_d0 measures_admitted_d0
  measure-d0-sheet cap =
      sheet-told s _ (either 11 _ (λ t. of_sheet t ≡ false) (capped cap) refl (plate_d0-answers (λ t. of_sheet t ≡ false) (λ v. refl) (λ v. refl) (search_d0 s cap)))

  pub measure-d1-sheet : (cap number : ℕ) (given : List ℕ) → number ≤ 6 → (measures_d1 s cap ≡ refusal number given) ↔ (admits s ≡ refusal number given)
  unfolding measures_d1 measures_admitted_d1
  measure-d1-sheet cap =
      sheet-told s _ (either 11 _ (λ t. of_sheet t ≡ false) (capped cap) refl (plate_d1-answers (λ t. of_sheet t ≡ false) (λ v. refl) (λ v. refl) cap (search_d1 s cap)))

  -- 11: "cap 0 or above 8"
  pub measure-d0-11 : (cap : ℕ) → (measures_d0 s cap ≡ refusal 11 []) ↔ (Admitted s × ((cap ≡ 0) ⊎ (most_cap < cap)))
  unfolding measures_d0 measures_admitted_d0
  measure-d0-11 cap =
      then-1 (past-judged s _ (refusal 11 []) refl)
      (own 11 _ (capped cap) (outside most_cap cap) (plate_d0-answers (λ t. is_refusal 11 t ≡ false) (λ v. refl) (λ v. refl) (search_d0 s cap)))

  pub measure-d1-11 : (cap : ℕ) → (measures_d1 s cap ≡ refusal 11 []) ↔ (Admitted s × ((cap ≡ 0) ⊎ (most_cap < cap)))
  unfolding measures_d1 measures_admitted_d1
  measure-d1-11 cap =
      then-1 (past-judged s _ (refusal 11 []) refl)
      (own 11 _ (capped cap) (outside most_cap cap) (plate_d1-answers (λ t. is_refusal 11 t ≡ false) (λ v. refl) (λ v. refl) cap (search_d1 s cap)))
