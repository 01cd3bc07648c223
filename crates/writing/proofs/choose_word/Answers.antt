-- `choose_word` meets its contract: the smallest d that the elimination finds is the smallest whose word fits, and it is 0 where wG1 fits.
use mathlib.Core.Path.{◌≡◌, sym, ap, ap₂, ◌∙◌}
use mathlib.Core.List.{List, [], ◌∷◌}
use Prim.Native.Nat.{ℕ, ◌^◌}
use lib.Bits.{bit_and}
use lib.Dec.{eqb}
use lib.ListN.{length}
use Rattle.paper.specs.First.{First, first}
use Rattle.paper.specs.Refusals.{answer}
use Rattle.paper.specs.Sheet.{Sheet, G1, G0}
use Rattle.paper.specs.Words.{sum, ◌⊕◌}
use Rattle.paper.specs.Writing.{fitting, chosen}
use Rattle.words.specs.Places.{as_first}
use Rattle.words.proofs.Firsts.{first-same}
use Rattle.writing.proofs.Fits.{fits-test, base-chosen}
use Rattle.writing.proofs.choose_word.Goals as goal

-- what the elimination finds is what fits, the base being wG1
found : (s : Sheet) (w stuck levels base : ℕ) (g0 : List ℕ) {f : First} → base ≡ sum (G1 s) w → g0 ≡ G0 s → length g0 ≡ s.l → bit_and levels stuck ≡ levels
    → f ≡ first (2 ^ length g0) (λ d. eqb (bit_and (sum g0 d) stuck) (bit_and (base ⊕ levels) stuck)) → f ≡ fitting s w stuck levels
unfolding ◌⊕◌
found s w stuck levels base g0 own rows count inside q =
    q ∙ ap (λ (b : ℕ). first (2 ^ length g0) (λ d. eqb (bit_and (sum g0 d) stuck) (bit_and (b ⊕ levels) stuck))) own
    ∙ ap₂ (λ (m : ℕ) (g : List ℕ). first (2 ^ m) (λ d. eqb (bit_and (sum g d) stuck) (bit_and (sum (G1 s) w ⊕ levels) stuck))) count rows
    ∙ first-same _ _ (2 ^ s.l) (λ d l. fits-test (sum (G1 s) w) (sum (G0 s) d) stuck levels inside)

pub returns-then-base-levels-eq0 : goal.returns-then-base-levels-eq0
unfolding ◌⊕◌
returns-then-base-levels-eq0 c =
    let a = c.args in
    let base = c.sum_of-base.ensures ∙ ap (λ (g : List ℕ). sum g a.message) c.g1.ensures.rows in
    ap (λ (x : ℕ). answer (x ∷ 0 ∷ [])) base
    ∙ base-chosen a.sheet.now a.message a.stuck a.levels c.requires
    (ap (λ (x : ℕ). bit_and (x ⊕ a.levels) a.stuck) (sym base) ∙ c.if-base-levels-eq0.true)

pub returns-in-Some : goal.returns-in-Some
unfolding ◌⊕◌
returns-in-Some c =
    let d = c.in-Some.d in
    let a = c.args in
    let s = a.sheet.now in
    let base = c.sum_of-base.ensures ∙ ap (λ (g : List ℕ). sum g a.message) c.g1.ensures.rows in
    let fits = found s a.message a.stuck a.levels _ _ base c.g0-g0.ensures.rows c.g0-g0.ensures.count c.requires c.solve.ensures in
    ap (λ (x : ℕ). answer (x ∷ d ∷ [])) (ap₂ ◌⊕◌ base (c.sum_of.ensures ∙ ap (λ (g : List ℕ). sum g d) c.g0-g0.ensures.rows))
    ∙ ap (chosen s a.message) (sym (ap as_first c.in-Some.is) ∙ fits)

pub returns-in-None : goal.returns-in-None
unfolding ◌⊕◌
returns-in-None c =
    let a = c.args in
    let s = a.sheet.now in
    let base = c.sum_of-base.ensures ∙ ap (λ (g : List ℕ). sum g a.message) c.g1.ensures.rows in
    let fits = found s a.message a.stuck a.levels _ _ base c.g0-g0.ensures.rows c.g0-g0.ensures.count c.requires c.solve.ensures in
    ap (chosen s a.message) (sym (ap as_first c.in-None.is) ∙ fits)
