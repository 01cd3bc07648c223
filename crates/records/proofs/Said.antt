-- What the records of one slot say if none of them breaks the rule: stuck cells below n, levels at stuck cells alone, and at each cell what the records agree on.
-- For the writer behind a page's write, which asks the first two of its stuck cells, and for the steps in which records are gathered. Assumes nothing.
use mathlib.Core.Path.{◌≡◌, refl, sym, ap, ◌∙◌, subst}
use mathlib.Core.Bool.{Bool, true, false, not, ◌&&◌, ◌||◌, or-true, or-false}
use mathlib.Core.List.{List, [], ◌∷◌, ◌++◌}
use Prim.Native.Nat.{ℕ, zero, suc, ◌*◌, ◌^◌, ◌≤◌, ◌<◌, max}
use native.Mathlib.Nat.{le_refl, zero-mul, one-mul}
use native.Mathlib.Omega.{arith}
use borrow.Author.Tests.{eqb-true, eqb-false, leb-false, not-false}
use lib.Bits.{bit_or, or_comm, or_lt}
use lib.Dec.{T, eqb, leb}
use lib.ListN.{length, get_or, take}
use lib.Pow.{pow_pos, pow-lt}
use lib.Seq.{take-suc, take-length}
use Rattle.paper.specs.First.{nowhere}
use Rattle.paper.specs.Page.{disagrees, breaks, no_record, first_broken, stuck_by, levels_by}
use Rattle.paper.specs.Promised.{Stuck}
use Rattle.paper.specs.Sheet.{Sheet}
use Rattle.paper.specs.Words.{cell, weight}
use Rattle.paper.specs.declared.StuckCell.{StuckCell}
use Rattle.records.proofs.Lists.{stuck-append, levels-append, disagrees-append}
use Rattle.words.proofs.Cells.{cell-and, cell-lt, cell-of-0, cell-or, cell-unit, cell-unit-other, ext-all}
use Rattle.words.proofs.Firsts.{first-all}
use Rattle.words.proofs.Sums.{ones-or, ones-unit, ones-zero}

-- ---- one record more, behind the others

pub stuck-more : (rs : List StuckCell) (r : StuckCell) → stuck_by (rs ++ r ∷ []) ≡ bit_or (stuck_by rs) (2 ^ r.cell)
stuck-more rs r = stuck-append rs (r ∷ []) ∙ ap (bit_or (stuck_by rs)) (or_comm (2 ^ r.cell) 0)

pub levels-more : (rs : List StuckCell) (r : StuckCell) → levels_by (rs ++ r ∷ []) ≡ bit_or (levels_by rs) (r.level * 2 ^ r.cell)
levels-more rs r = levels-append rs (r ∷ []) ∙ ap (bit_or (levels_by rs)) (or_comm (r.level * 2 ^ r.cell) 0)

-- the record e names the cell of r at another level
abbrev clash : StuckCell → StuckCell → Bool
clash e r = eqb e.cell r.cell && not (eqb e.level r.level)

disagrees-more : (rs : List StuckCell) (e r : StuckCell) → disagrees (rs ++ e ∷ []) r ≡ disagrees rs r || clash e r
disagrees-more rs e r = disagrees-append rs (e ∷ []) r ∙ ap (λ (b : Bool). disagrees rs r || b) (or-false (clash e r))

-- ---- what the records say of a cell

-- the stuck cell, and its level, against a level
abbrev pub off : ℕ → ℕ → ℕ → Bool
off a b v = eqb a 1 && not (eqb b v)

-- what the records say, none of them breaking the rule: cells below n, levels at stuck cells, and a record disagrees with them exactly if it does with the level at its cell
pub record Agreed (n : ℕ) (rs : List StuckCell) : Type 0 where
  pub cells : stuck_by rs < 2 ^ n
  pub within : (c : ℕ) → cell (levels_by rs) c ≤ cell (stuck_by rs) c
  pub tells : (r : StuckCell) → disagrees rs r ≡ off (cell (stuck_by rs) r.cell) (cell (levels_by rs) r.cell) r.level

agreed-none : (n : ℕ) → Agreed n []
agreed-none n = record {
  cells = pow_pos n;
  within = λ c. le_refl _;
  tells = λ r. rw (cell-of-0 r.cell);
}

cell-scaled : (v c j : ℕ) → v < 2 → cell (v * 2 ^ c) j ≡ v * cell (2 ^ c) j
cell-scaled zero c j h = rw (zero-mul (2 ^ c), cell-of-0, zero-mul (cell (2 ^ c) j))
cell-scaled (suc zero) c j h = rw (one-mul (2 ^ c), one-mul (cell (2 ^ c) j))
cell-scaled (suc (suc v)) c j h = absurd (omega arith)

-- the parts of the rule
kept : (n : ℕ) (rs : List StuckCell) (r : StuckCell) → breaks n rs r ≡ false → (r.cell < n) × (r.level < 2) × (disagrees rs r ≡ false)
kept n rs r q = go (leb n r.cell) (leb 2 r.level) refl refl q
  where
    go : (a b : Bool) → leb n r.cell ≡ a → leb 2 r.level ≡ b → a || (b || disagrees rs r) ≡ false
        → (r.cell < n) × (r.level < 2) × (disagrees rs r ≡ false)
    go true b h k e = absurd (subst T e tt)
    go false true h k e = absurd (subst T e tt)
    go false false h k e = (leb-false n r.cell h, leb-false 2 r.level k, e)

module _ (n : ℕ) (rs : List StuckCell) (e : StuckCell) (a : Agreed n rs) (low : e.level < 2) (agrees : disagrees rs e ≡ false) where
  -- the stuck cells and the levels with e
  abbrev mask : ℕ
  mask = bit_or (stuck_by rs) (2 ^ e.cell)

  abbrev levels : ℕ
  levels = bit_or (levels_by rs) (e.level * 2 ^ e.cell)

  within_more : (c : ℕ) → cell levels c ≤ cell mask c
  within_more c =
      rw (cell-or (levels_by rs) (e.level * 2 ^ e.cell) c, cell-or (stuck_by rs) (2 ^ e.cell) c, cell-scaled e.level e.cell c low)
      (both (a.within c) (part e.level (cell (2 ^ e.cell) c) low))
    where
      part : (v x : ℕ) → v < 2 → v * x ≤ x
      part zero x h = rw zero-mul (omega arith)
      part (suc zero) x h = rw one-mul (omega arith)
      part (suc (suc v)) x h = absurd (omega arith)

      both : {s t u v : ℕ} → s ≤ u → t ≤ v → max s t ≤ max u v
      both p q = omega arith

  -- at its own cell e makes the mask 1, and its level is there
  at_own : (cell mask e.cell ≡ 1) × (cell levels e.cell ≡ e.level)
  at_own = (
    rw (cell-or (stuck_by rs) (2 ^ e.cell) e.cell, cell-unit e.cell) (omega (arith, cell-lt (stuck_by rs) e.cell)),
    rw (cell-or (levels_by rs) (e.level * 2 ^ e.cell) e.cell, cell-scaled e.level e.cell e.cell low, cell-unit e.cell)
        (go (cell (stuck_by rs) e.cell) (cell (levels_by rs) e.cell) e.level (cell-lt (stuck_by rs) e.cell) (a.within e.cell) (sym (a.tells e) ∙ agrees)),
  )
    where
      go : (m l v : ℕ) → m < 2 → l ≤ m → off m l v ≡ false → max l (v * 1) ≡ v
      go zero l v h w o = omega arith
      go (suc zero) l v h w o = let q : l ≡ v = eqb-true l v (not-false (eqb l v) o) in omega arith
      go (suc (suc m)) l v h w o = absurd (omega arith)

  -- elsewhere it changes nothing
  at_other : (c : ℕ) → (e.cell ≡ c → ⊥) → (cell mask c ≡ cell (stuck_by rs) c) × (cell levels c ≡ cell (levels_by rs) c)
  at_other c ne = (
    rw (cell-or (stuck_by rs) (2 ^ e.cell) c, cell-unit-other e.cell c ne) (omega arith),
    rw (cell-or (levels_by rs) (e.level * 2 ^ e.cell) c, cell-scaled e.level e.cell c low, cell-unit-other e.cell c ne) (omega arith),
  )

  tells_more : (r : StuckCell) → disagrees rs r || clash e r ≡ off (cell mask r.cell) (cell levels r.cell) r.level
  tells_more r = go (eqb e.cell r.cell) (eqb e.level r.level) refl refl
    where
      go : (t u : Bool) → eqb e.cell r.cell ≡ t → eqb e.level r.level ≡ u
          → disagrees rs r || clash e r ≡ off (cell mask r.cell) (cell levels r.cell) r.level
      go false u p q =
          let o = at_other r.cell (eqb-false e.cell r.cell p) in
          rw (p, o.0, o.1) (or-false (disagrees rs r) ∙ a.tells r)
      go true u p q =
          let c : e.cell ≡ r.cell = eqb-true e.cell r.cell p in
          let m : cell mask r.cell ≡ 1 = ap (cell mask) (sym c) ∙ at_own.0 in
          let l : cell levels r.cell ≡ e.level = ap (cell levels) (sym c) ∙ at_own.1 in
          rw (p, m, l, q) (ends u q)
        where
          ends : (u : Bool) → eqb e.level r.level ≡ u → disagrees rs r || not u ≡ not u
          ends false q = or-true (disagrees rs r)
          ends true q =
              let c : e.cell ≡ r.cell = eqb-true e.cell r.cell p in
              let l : e.level ≡ r.level = eqb-true e.level r.level q in
              or-false (disagrees rs r) ∙ a.tells r ∙ rw (← c, ← l) (sym (a.tells e) ∙ agrees)

-- a record that keeps the rule leaves the others agreed
agreed-more : (n : ℕ) (rs : List StuckCell) (r : StuckCell) → Agreed n rs → breaks n rs r ≡ false → Agreed n (rs ++ r ∷ [])
agreed-more n rs r a q =
    let k = kept n rs r q in
    record {
      cells = rw (stuck-more rs r) (or_lt n (stuck_by rs) (2 ^ r.cell) a.cells (pow-lt k.0));
      within = λ c. rw (stuck-more rs r, levels-more rs r) (within_more n rs r a k.1 k.2 c);
      tells = λ e. rw (disagrees-more rs r e, stuck-more rs r, levels-more rs r) (tells_more n rs r a k.1 k.2 e);
    }

-- the records before i, none of which breaks the rule
agreed-upto : (n : ℕ) (rs : List StuckCell) (i : ℕ) → i ≤ length rs → ((j : ℕ) → j < i → breaks n (take j rs) (get_or rs j no_record) ≡ false) → Agreed n (take i rs)
agreed-upto n rs zero h f = agreed-none n
agreed-upto n rs (suc i) h f =
    rw (take-suc rs i no_record h) (agreed-more n (take i rs) (get_or rs i no_record) (agreed-upto n rs i (omega arith) (λ j l. f j (omega arith))) (f i (omega arith)))

pub unbroken : (n : ℕ) (rs : List StuckCell) → first_broken n rs ≡ nowhere → Agreed n rs
unfolding first_broken
unbroken n rs e =
    subst (Agreed n) (take-length rs)
    (agreed-upto n rs (length rs) (le_refl _) (λ j l. first-all (λ i. breaks n (take i rs) (get_or rs i no_record)) (length rs) j e l))

-- ---- what is good to write around

pub unbroken-stuck : (s : Sheet) (rs : List StuckCell) → first_broken s.n rs ≡ nowhere → Stuck s (stuck_by rs) (levels_by rs)
unbroken-stuck s rs e =
    let a = unbroken s.n rs e in
    record {
      cells = a.cells;
      inside = ext-all (λ i. cell-and (levels_by rs) (stuck_by rs) i ∙ omega (arith, a.within i));
    }

-- "Equal records count once": no more cells are stuck than there are records
pub few_stuck : (rs : List StuckCell) → weight (stuck_by rs) ≤ length rs
few_stuck [] = omega (arith, ones-zero)
few_stuck (r ∷ rs) = omega (arith, few_stuck rs, ones-or (2 ^ r.cell) (stuck_by rs), ones-unit r.cell)
