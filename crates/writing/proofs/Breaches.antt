-- The cells that break rule 8, told by the word that the code makes of them, and what the rule asks of each cell.
-- For the judgement of stuck cells, and for what a write's answer says of them. Assumes nothing.
use mathlib.Core.Path.{◌≡◌, refl, sym, ap, ◌∙◌}
use mathlib.Core.Bool.{Bool, true, false, cond, ◌&&◌, ◌||◌, true≢false, or-true, and-false}
use mathlib.Core.Logic.{◌⊎◌, inl, inr, ◌↔◌}
use Prim.Native.Nat.{ℕ, zero, suc, ◌+◌, ◌%◌, ◌^◌, ◌≤◌, ◌<◌, min, max}
use native.Mathlib.Nat.{lt_of_le_of_lt}
use native.Mathlib.Omega.{arith}
use borrow.Author.Tests.{leb-true, le-leb}
use lib.Bits.{bit_and, bit_or, and_le_l}
use lib.Dec.{eqb, leb}
use Rattle.paper.specs.First.{nowhere, first}
use Rattle.paper.specs.Promised.{Stuck}
use Rattle.paper.specs.Sheet.{Sheet}
use Rattle.paper.specs.Words.{width, cell, ◌⊕◌}
use Rattle.paper.specs.Writing.{misplaced}
use Rattle.words.proofs.Cells.{cell-and, cell-or, cell-lt, cell-cases, cell-above, ext}
use Rattle.words.proofs.Sums.{cell-⊕, cell-strays}
use Rattle.words.proofs.Firsts.{first-all, none_below}

-- rule 8, cell by cell
pub misplaced-cell : (n stuck levels i : ℕ)
    → eqb (cell (bit_or (bit_or stuck levels ⊕ bit_or stuck levels % 2 ^ n) (levels ⊕ bit_and levels stuck)) i) 1 ≡ misplaced n stuck levels i
misplaced-cell n stuck levels i =
    rw
    (cell-or (bit_or stuck levels ⊕ bit_or stuck levels % 2 ^ n) (levels ⊕ bit_and levels stuck) i, cell-strays (bit_or stuck levels) n i, cell-or stuck levels i, cell-⊕ levels (bit_and levels stuck) i, cell-and levels stuck i)
    (go (leb n i) (cell stuck i) (cell levels i) (cell-lt stuck i) (cell-lt levels i))
  where
    go : (high : Bool) (s l : ℕ) → s < 2 → l < 2
        → eqb (max (cond high (max s l) 0) ((l + min l s) % 2)) 1 ≡ ((high && (eqb s 1 || eqb l 1)) || (eqb l 1 && eqb s 0))
    go true zero zero p q = refl
    go true zero (suc zero) p q = refl
    go true (suc zero) zero p q = refl
    go true (suc zero) (suc zero) p q = refl
    go false zero zero p q = refl
    go false zero (suc zero) p q = refl
    go false (suc zero) zero p q = refl
    go false (suc zero) (suc zero) p q = refl
    go high (suc (suc s)) l p q = absurd (omega arith)
    go high zero (suc (suc l)) p q = absurd (omega arith)
    go high (suc zero) (suc (suc l)) p q = absurd (omega arith)

-- what rule 8 asks of one cell
pub not-misplaced : (n stuck levels i : ℕ) → (misplaced n stuck levels i ≡ false) ↔ ((n ≤ i → cell stuck i ≡ 0) × (cell levels i ≤ cell stuck i))
not-misplaced n stuck levels i = (λ e. to e (cell-cases stuck i) (cell-cases levels i), λ h. from h (leb n i) refl (cell-cases stuck i) (cell-cases levels i))
  where
    to : misplaced n stuck levels i ≡ false → (cell stuck i ≡ 0) ⊎ (cell stuck i ≡ 1) → (cell levels i ≡ 0) ⊎ (cell levels i ≡ 1)
        → (n ≤ i → cell stuck i ≡ 0) × (cell levels i ≤ cell stuck i)
    to e (inl p) (inl q) = (λ l. p, omega arith)
    to e (inl p) (inr q) = absurd (true≢false (sym (rw (p, q, or-true)) ∙ e))
    to e (inr p) q = (λ l. absurd (true≢false (sym (rw (le-leb n i l, p)) ∙ e)), omega (arith, cell-lt levels i))

    from : (n ≤ i → cell stuck i ≡ 0) × (cell levels i ≤ cell stuck i) → (b : Bool) → leb n i ≡ b
        → (cell stuck i ≡ 0) ⊎ (cell stuck i ≡ 1) → (cell levels i ≡ 0) ⊎ (cell levels i ≡ 1) → misplaced n stuck levels i ≡ false
    from h b e (inl p) (inl q) = rw (p, q, and-false)
    from h b e (inl p) (inr q) = absurd (omega (arith, h.1))
    from h true e (inr p) q = absurd (omega (arith, h.0 (leb-true n i e)))
    from h false e (inr p) q = rw (e, p, and-false)

-- where rule 8 holds, the levels are at stuck cells
pub levels-inside : (w n stuck levels : ℕ) → levels < 2 ^ w → first w (misplaced n stuck levels) ≡ nowhere → bit_and levels stuck ≡ levels
levels-inside w n stuck levels h e =
    ext w (lt_of_le_of_lt (and_le_l levels stuck) h) h
    (λ i l. cell-and levels stuck i ∙ omega (arith, ((not-misplaced n stuck levels i).0 (first-all _ w i e l)).1))

-- good stuck cells pass rule 8
pub stuck-passes : (s : Sheet) (stuck levels : ℕ) → Stuck s stuck levels → first width (misplaced s.n stuck levels) ≡ nowhere
stuck-passes s stuck levels h =
    none_below _ width
    (λ i l. (not-misplaced s.n stuck levels i).1 (cell-above h.cells i, omega (arith, cell-and levels stuck i, ap (λ (x : ℕ). cell x i) h.inside)))
