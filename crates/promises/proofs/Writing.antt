-- Demand 2 for writing: the written word is the fitting word of the message with the smallest d; refused for want of a word only if none fits.
-- Every sentence of demand 3 on written words starts from these. Assumes nothing.
use mathlib.Core.Path.{◌≡◌, refl, sym, ap, ◌∙◌, subst}
use mathlib.Core.Bool.{true, false}
use mathlib.Core.Logic.{◌⊎◌, inl, inr, ◌↔◌}
use mathlib.Core.List.{[], ◌∷◌}
use Prim.Native.Nat.{ℕ, ◌^◌, ◌<◌, min}
use native.Mathlib.Omega.{arith}
use borrow.Author.Tests.{eqb-true, eq-eqb}
use lib.Bits.{bit_and, and_zero_r}
use lib.Pow.{pow_pos}
use Rattle.paper.specs.First.{First, nowhere, at}
use Rattle.paper.specs.Words.{cell}
use Rattle.paper.specs.Refusals.{answer, refusal}
use Rattle.paper.specs.Sheet.{Sheet, Admitted, WordOf}
use Rattle.paper.specs.Writing.{word_of, fits, fitting, chosen, writes}
use Rattle.paper.specs.Promised.{Stuck, Fitting}
use Rattle.words.proofs.Cells.{cell-and, cell-cases, cell-lt, ext-all}
use Rattle.words.proofs.Firsts.{first-at, first-is}
use Rattle.sheet.proofs.Verdicts.{sound}
use Rattle.sheet.proofs.Messages.{word-of, words_of}
use Rattle.promises.proofs.Tests.{not-below}
use Rattle.rules.proofs.Rules.{not-told}
use Rattle.writing.proofs.Breaches.{stuck-passes}
use Rattle.promises.proofs.Answers.{write-told, writes-on}
use Rattle.promises.proofs.Order.{write-9}

-- "A word fits if it equals the level at every stuck cell": what is said by a mask, cell by cell
pub fits-cells : (s : Sheet) (stuck levels x : ℕ) → Stuck s stuck levels
    → (fits stuck levels x ≡ true) ↔ ((i : ℕ) → cell stuck i ≡ 1 → cell x i ≡ cell levels i)
fits-cells s stuck levels x good = (λ e. to (eqb-true _ _ e), λ h. eq-eqb _ _ (ext-all (λ i. cell-and x stuck i ∙ from h i (cell-cases stuck i))))
  where
    to : bit_and x stuck ≡ levels → (i : ℕ) → cell stuck i ≡ 1 → cell x i ≡ cell levels i
    to e i one = omega (arith, cell-and x stuck i, cell-lt x i, ap (λ (y : ℕ). cell y i) e)

    from : ((i : ℕ) → cell stuck i ≡ 1 → cell x i ≡ cell levels i) → (i : ℕ) → (cell stuck i ≡ 0) ⊎ (cell stuck i ≡ 1) → min (cell x i) (cell stuck i) ≡ cell levels i
    from h i (inl none) = omega (arith, cell-and levels stuck i, ap (λ (y : ℕ). cell y i) good.inside)
    from h i (inr one) = omega (arith, h i one, cell-lt x i)

module _ (s : Sheet) (w stuck levels : ℕ) where
  -- demand 2: "a written word is exactly the one that the definition and the tie rule name"
  pub written-fits : (x d : ℕ) → writes s w stuck levels ≡ answer (x ∷ d ∷ []) → Fitting s w stuck levels x d
  written-fits x d e =
      let t = (write-told s w stuck levels (answer (x ∷ d ∷ [])) refl refl refl).0 e in
      let c = named (fitting s w stuck levels) t.3 in
      let f = first-at _ (2 ^ s.l) d c.0 in
      record {
        word = subst (WordOf s w) (sym c.1) (word-of s (sound s t.0) w d t.1);
        fit = rw c.1 f.1;
        own = c.1;
        low = f.0;
        smallest = λ x' h p.
            let q = (words_of s (sound s t.0) w x' t.1).0 h in
            (q.0, q.1, q.2, not-below q.0 d (ap (fits stuck levels) (sym q.2) ∙ p) (f.2 q.0));
      }
    where
      named : (f : First) → chosen s w f ≡ answer (x ∷ d ∷ []) → (f ≡ at d) × (x ≡ word_of s w d)
      named (at i) q = let u : i ≡ d = cc in (ap at u, cc)
      named nowhere q = not-told q refl

  -- "refused for want of a word only if none fits"
  pub refused_none : writes s w stuck levels ≡ refusal 9 [] → (x : ℕ) → WordOf s w x → fits stuck levels x ≡ false
  refused_none e x h =
      let t = (write-9 s w stuck levels).0 e in
      let q = (words_of s (sound s t.0) w x t.1).0 h in
      ap (fits stuck levels) q.2 ∙ t.3 q.0 q.1

  -- and always if none fits
  pub none-refused : Admitted s → w < 2 ^ s.k → Stuck s stuck levels → ((x : ℕ) → WordOf s w x → fits stuck levels x ≡ false)
      → writes s w stuck levels ≡ refusal 9 []
  none-refused ok l h f =
      (write-9 s w stuck levels).1 (ok, l, stuck-passes s stuck levels h, λ d m. f (word_of s w d) (word-of s (sound s ok) w d l))

-- with nothing stuck, the word is wG1
pub writes-free : (s : Sheet) (w : ℕ) → Admitted s → w < 2 ^ s.k → writes s w 0 0 ≡ answer (word_of s w 0 ∷ 0 ∷ [])
writes-free s w ok l =
    writes-on s ok w 0 0 l (record { cells = pow_pos s.n; inside = refl })
    ∙ ap (chosen s w) (first-is _ (2 ^ s.l) 0 (pow_pos s.l) (eq-eqb _ _ (and_zero_r (word_of s w 0))) (λ j h. absurd (omega arith)))
