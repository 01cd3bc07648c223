-- The test of the elimination is the test of the definition: a word fits exactly if its sum of G0 has the right cells on the mask.
-- And wG1 itself is the answer where it has the levels at the stuck cells. For the choice of the word. Assumes nothing.
use mathlib.Core.Path.{◌≡◌, sym, ap, ◌∙◌}
use mathlib.Core.Bool.{true}
use mathlib.Core.List.{[], ◌∷◌}
use Prim.Native.Nat.{ℕ, ◌^◌}
use native.Mathlib.Omega.{arith}
use native.Mathlib.Decide.{ℕ_discrete}
use borrow.Author.Tests.{eq-eqb, ne_eqb}
use lib.Bits.{bit_and}
use lib.Dec.{eqb}
use lib.Pow.{pow_pos}
use Rattle.paper.specs.Refusals.{answer}
use Rattle.paper.specs.Sheet.{Sheet, G1, G0}
use Rattle.paper.specs.Words.{sum, ◌⊕◌}
use Rattle.paper.specs.Writing.{word_of, fits, fitting, chosen}
use Rattle.words.proofs.Firsts.{first-is}
use Rattle.words.proofs.Rows.{sum-zero}
use Rattle.words.proofs.Sums.{on-mask, ⊕-zero-r}

-- two tests of equality that hold together
eqb_same : (x y u v : ℕ) → (x ≡ y → u ≡ v) → (u ≡ v → x ≡ y) → eqb x y ≡ eqb u v
eqb_same x y u v f g = go (ℕ_discrete x y)
  where
    go : Dec (x ≡ y) → eqb x y ≡ eqb u v
    go (yes e) = eq-eqb x y e ∙ sym (eq-eqb u v (f e))
    go (no n) = ne_eqb x y n ∙ sym (ne_eqb u v (λ e. n (g e)))

-- wG1 + dG0 has the levels at the stuck cells exactly if dG0 has there what wG1 and the levels differ in
pub fits-test : (base g stuck levels : ℕ) → bit_and levels stuck ≡ levels
    → eqb (bit_and g stuck) (bit_and (base ⊕ levels) stuck) ≡ eqb (bit_and (base ⊕ g) stuck) levels
fits-test base g stuck levels h = let i = on-mask base g levels stuck h in eqb_same _ _ _ _ i.1 i.0

-- where wG1 and the levels differ in no stuck cell, d is 0
pub base-chosen : (s : Sheet) (w stuck levels : ℕ) → bit_and levels stuck ≡ levels → bit_and (sum (G1 s) w ⊕ levels) stuck ≡ 0
    → answer (sum (G1 s) w ∷ 0 ∷ []) ≡ chosen s w (fitting s w stuck levels)
base-chosen s w stuck levels inside e =
    let base = sum (G1 s) w in
    let word : word_of s w 0 ≡ base = ap (λ (x : ℕ). base ⊕ x) (sum-zero (G0 s)) ∙ ⊕-zero-r base in
    let fit : fits stuck levels (word_of s w 0) ≡ true =
    ap (fits stuck levels) (ap (λ (x : ℕ). base ⊕ x) (sum-zero (G0 s))) ∙ sym (fits-test base 0 stuck levels inside) ∙ eq-eqb _ _ (sym e) in
    ap (λ (x : ℕ). answer (x ∷ 0 ∷ [])) (sym word)
    ∙ ap (chosen s w) (sym (first-is (λ d. fits stuck levels (word_of s w d)) (2 ^ s.l) 0 (pow_pos s.l) fit (λ j l. absurd (omega arith))))
