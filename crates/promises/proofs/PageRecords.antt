-- 15 in words, record by record; and what records that break no rule say: no two disagree, and a word fits exactly if it has each record's level at its cell.
-- For request 1's rule on records, and for the words that are written around them. Assumes nothing.
use mathlib.Core.Path.{◌≡◌, refl, sym, ap, ◌∙◌}
use mathlib.Core.Bool.{Bool, true, false, not, ◌&&◌, ◌||◌, or-true, true≢false}
use mathlib.Core.Logic.{◌⊎◌, inl, inr, ◌↔◌}
use mathlib.Core.List.{List, [], ◌∷◌}
use Prim.Native.Nat.{ℕ, zero, suc, ◌^◌, ◌≤◌, ◌<◌}
use native.Mathlib.Decide.{ℕ_discrete, dec_lt}
use native.Mathlib.Omega.{arith}
use borrow.Author.Tests.{leb-true, le-leb, eqb-true, eqb-false, eq-eqb, ne_eqb, not-false}
use lib.Dec.{eqb, leb}
use lib.ListN.{length, get_or, take}
use lib.Seq.{length-take-le, get_or-take}
use Rattle.paper.specs.First.{nowhere, at}
use Rattle.paper.specs.Words.{cell}
use Rattle.paper.specs.Sheet.{Sheet}
use Rattle.paper.specs.Page.{disagrees, breaks, no_record, first_broken, stuck_by, levels_by}
use Rattle.paper.specs.Writing.{fits}
use Rattle.paper.specs.declared.StuckCell.{StuckCell}
use Rattle.words.proofs.Cells.{cell-lt, cell-of-0, cell-or, cell-unit, cell-unit-other}
use Rattle.words.proofs.Firsts.{none_below, first-all, first-at, first-is}
use Rattle.records.proofs.Said.{unbroken, unbroken-stuck}
use Rattle.promises.proofs.Tests.{fails}
use Rattle.promises.proofs.Writing.{fits-cells}

-- ---- 15 in words

-- a test of two parts, by what each says
either-holds : (a b : Bool) {A B : Type 0} → ((a ≡ true) ↔ A) → ((b ≡ true) ↔ B) → ((a || b) ≡ true) ↔ (A ⊎ B)
either-holds true b {A = A} {B = B} i j = (λ e. inl (i.0 refl), λ p. refl)
either-holds false b {A = A} {B = B} i j = (λ e. inr (j.0 e), from)
  where
    from : A ⊎ B → b ≡ true
    from (inl p) = absurd (true≢false (sym (i.1 p)))
    from (inr p) = j.1 p

-- "disagrees with an earlier record for this slot and cell": some earlier one names the same cell and another level
pub disagrees-when : (earlier : List StuckCell) (r : StuckCell) → (disagrees earlier r ≡ true)
    ↔ ((j : ℕ) × (j < length earlier) × ((get_or earlier j no_record).cell ≡ r.cell) × ((get_or earlier j no_record).level ≡ r.level → ⊥))
disagrees-when [] r = (λ e. absurd (true≢false (sym e)), λ p. absurd (omega (arith, p.1)))
disagrees-when (e ∷ earlier) r = (
  to (eqb e.cell r.cell) (eqb e.level r.level) refl refl (disagrees-when earlier r).0,
  λ p. from (λ j l c v. (disagrees-when earlier r).1 (j, l, c, v)) p.0 p.1 p.2 p.3,
)
  where
    to : (a b : Bool) → eqb e.cell r.cell ≡ a → eqb e.level r.level ≡ b
        → (disagrees earlier r ≡ true → (j : ℕ) × (j < length earlier) × ((get_or earlier j no_record).cell ≡ r.cell) × ((get_or earlier j no_record).level ≡ r.level → ⊥))
        → ((a && not b) || disagrees earlier r) ≡ true
        → (j : ℕ) × (j < suc (length earlier)) × ((get_or (e ∷ earlier) j no_record).cell ≡ r.cell) × ((get_or (e ∷ earlier) j no_record).level ≡ r.level → ⊥)
    to true false p q ih h = (0, omega arith, eqb-true e.cell r.cell p, eqb-false e.level r.level q)
    to true true p q ih h = let i = ih h in (suc i.0, omega (arith, i.1), i.2, i.3)
    to false b p q ih h = let i = ih h in (suc i.0, omega (arith, i.1), i.2, i.3)

    from : ((j : ℕ) → j < length earlier → (get_or earlier j no_record).cell ≡ r.cell → ((get_or earlier j no_record).level ≡ r.level → ⊥) → disagrees earlier r ≡ true)
        → (j : ℕ) → j < suc (length earlier) → (get_or (e ∷ earlier) j no_record).cell ≡ r.cell → ((get_or (e ∷ earlier) j no_record).level ≡ r.level → ⊥)
        → disagrees (e ∷ earlier) r ≡ true
    from ih zero l c v = rw (eq-eqb e.cell r.cell c, ne_eqb e.level r.level v)
    from ih (suc j) l c v =
        ap (λ (b : Bool). (eqb e.cell r.cell && not (eqb e.level r.level)) || b) (ih j (omega arith) c v)
        ∙ or-true (eqb e.cell r.cell && not (eqb e.level r.level))

-- "a record for this slot names a cell at n or above, has a level other than 0 or 1, or disagrees with an earlier record for this slot and cell"
pub breaks-when : (n : ℕ) (earlier : List StuckCell) (r : StuckCell) → (breaks n earlier r ≡ true)
    ↔ ((n ≤ r.cell) ⊎ ((2 ≤ r.level)
    ⊎ ((j : ℕ) × (j < length earlier) × ((get_or earlier j no_record).cell ≡ r.cell) × ((get_or earlier j no_record).level ≡ r.level → ⊥))))
breaks-when n earlier r =
    either-holds (leb n r.cell) (leb 2 r.level || disagrees earlier r) (leb-true n r.cell, le-leb n r.cell)
    (either-holds (leb 2 r.level) (disagrees earlier r) (leb-true 2 r.level, le-leb 2 r.level) (disagrees-when earlier r))

-- "the place, from 0 among this slot's records, of the first that breaks the rule"
pub broken-at : (n : ℕ) (rs : List StuckCell) (i : ℕ) → (first_broken n rs ≡ at i)
    ↔ ((i < length rs) × (breaks n (take i rs) (get_or rs i no_record) ≡ true) × ((j : ℕ) → j < i → breaks n (take j rs) (get_or rs j no_record) ≡ false))
unfolding first_broken
broken-at n rs i = (first-at _ (length rs) i, λ p. first-is _ (length rs) i p.0 p.1 p.2)

pub broken-nowhere : (n : ℕ) (rs : List StuckCell) → (first_broken n rs ≡ nowhere)
    ↔ ((j : ℕ) → j < length rs → breaks n (take j rs) (get_or rs j no_record) ≡ false)
unfolding first_broken
broken-nowhere n rs = (λ e j l. first-all _ (length rs) j e l, none_below _ (length rs))

-- records of which none breaks the rule: no two disagree
module _ (n : ℕ) (rs : List StuckCell) (none : (j : ℕ) → j < length rs → breaks n (take j rs) (get_or rs j no_record) ≡ false) where
  agreeing : (i j : ℕ) → i < j → j < length rs → (get_or rs i no_record).cell ≡ (get_or rs j no_record).cell → (get_or rs i no_record).level ≡ (get_or rs j no_record).level
  agreeing i j l m c = go (ℕ_discrete (get_or rs i no_record).level (get_or rs j no_record).level)
    where
      e : get_or (take j rs) i no_record ≡ get_or rs i no_record
      e = get_or-take j rs i no_record l

      go : Dec ((get_or rs i no_record).level ≡ (get_or rs j no_record).level) → (get_or rs i no_record).level ≡ (get_or rs j no_record).level
      go (yes p) = p
      go (no p) =
          absurd (true≢false (sym ((breaks-when n (take j rs) (get_or rs j no_record)).1 (inr (inr (
            i,
            omega (arith, length-take-le j rs (omega arith)),
            ap (λ (x : StuckCell). x.cell) e ∙ c,
            λ h. p (sym (ap (λ (x : StuckCell). x.level) e) ∙ h),
          )))) ∙ none j m))

  pub none-disagrees : (j : ℕ) → j < length rs → disagrees rs (get_or rs j no_record) ≡ false
  none-disagrees j l =
      fails (disagrees rs (get_or rs j no_record)) (λ e.
      let q = (disagrees-when rs (get_or rs j no_record)).0 e in go q.0 q.1 q.2 q.3 (dec_lt q.0 j) (dec_lt j q.0))
    where
      go : (i : ℕ) → i < length rs → (get_or rs i no_record).cell ≡ (get_or rs j no_record).cell → ((get_or rs i no_record).level ≡ (get_or rs j no_record).level → ⊥)
          → Dec (i < j) → Dec (j < i) → ⊥
      go i m c v (yes p) q = v (agreeing i j p l c)
      go i m c v (no p) (yes q) = v (sym (agreeing j i q m (sym c)))
      go i m c v (no p) (no q) = let e : i ≡ j = omega arith in v (ap (λ (x : ℕ). (get_or rs x no_record).level) e)

-- ---- what records that break no rule say of a word

-- each record's cell is stuck
named-stuck : (rs : List StuckCell) (j : ℕ) → j < length rs → cell (stuck_by rs) (get_or rs j no_record).cell ≡ 1
named-stuck [] j l = absurd (omega arith)
named-stuck (r ∷ rs) zero l =
    omega (arith, cell-or (2 ^ r.cell) (stuck_by rs) r.cell, cell-unit r.cell, cell-lt (stuck_by rs) r.cell)
named-stuck (r ∷ rs) (suc j) l =
    let i : ℕ = (get_or rs j no_record).cell in
    omega (arith, cell-or (2 ^ r.cell) (stuck_by rs) i, cell-lt (2 ^ r.cell) i, named-stuck rs j (omega arith))

-- and no other
stuck-named : (rs : List StuckCell) (i : ℕ) → cell (stuck_by rs) i ≡ 1 → (j : ℕ) × (j < length rs) × ((get_or rs j no_record).cell ≡ i)
stuck-named [] i e = absurd (omega (arith, cell-of-0 i))
stuck-named (r ∷ rs) i e = go (ℕ_discrete r.cell i) (stuck-named rs i)
  where
    go : Dec (r.cell ≡ i) → (cell (stuck_by rs) i ≡ 1 → (j : ℕ) × (j < length rs) × ((get_or rs j no_record).cell ≡ i))
        → (j : ℕ) × (j < suc (length rs)) × ((get_or (r ∷ rs) j no_record).cell ≡ i)
    go (yes p) ih = (0, omega arith, p)
    go (no p) ih = let q = ih (omega (arith, cell-or (2 ^ r.cell) (stuck_by rs) i, cell-unit-other r.cell i p)) in (suc q.0, omega (arith, q.1), q.2)

module _ (s : Sheet) (rs : List StuckCell) (good : first_broken s.n rs ≡ nowhere) where
  -- the level at each record's cell is the record's
  level-named : (j : ℕ) → j < length rs → cell (levels_by rs) (get_or rs j no_record).cell ≡ (get_or rs j no_record).level
  level-named j l =
      let r : StuckCell = get_or rs j no_record in
      let a : Bool = eqb (cell (levels_by rs) r.cell) r.level in
      let e : not a ≡ false =
      ap (λ (b : Bool). b && not a) (sym (eq-eqb (cell (stuck_by rs) r.cell) 1 (named-stuck rs j l))) ∙ sym ((unbroken s.n rs good).tells r)
      ∙ none-disagrees s.n rs ((broken-nowhere s.n rs).0 good) j l in
      eqb-true (cell (levels_by rs) r.cell) r.level (not-false a e)

  -- "A word fits if it equals the level at every stuck cell": a word fits what the records gather to exactly if it has, at each record's cell, the record's level
  pub fits-records : (x : ℕ) → (fits (stuck_by rs) (levels_by rs) x ≡ true)
      ↔ ((j : ℕ) → j < length rs → cell x (get_or rs j no_record).cell ≡ (get_or rs j no_record).level)
  fits-records x =
      let i = fits-cells s (stuck_by rs) (levels_by rs) x (unbroken-stuck s rs good) in (
        λ e j l. i.0 e (get_or rs j no_record).cell (named-stuck rs j l) ∙ level-named j l,
        λ h. i.1 (λ c e.
            let q = stuck-named rs c e in
            ap (cell x) (sym q.2) ∙ h q.0 q.1 ∙ sym (level-named q.0 q.1) ∙ ap (cell (levels_by rs)) q.2),
      )
