-- Demand 3: "the plate (d0, d1) is true", a theorem for each of its sentences, of the calls as they answer.
-- First stuck cells and d0, then reading back and d1, then the noise that no radius undoes. Assumes nothing.
use mathlib.Core.Path.{◌≡◌, refl, sym, ap, ap₂, ◌∙◌, subst}
use mathlib.Core.Bool.{Bool, true, ◌&&◌, true≢false, and-eq-true_iff}
use mathlib.Core.Logic.{◌⊎◌, inl, inr, ◌↔◌}
use mathlib.Core.List.{[], ◌∷◌}
use Prim.Native.Nat.{ℕ, ◌+◌, ◌*◌, ◌/◌, ◌%◌, ◌^◌, ◌≤◌, ◌<◌}
use native.Mathlib.Decide.{ℕ_discrete}
use native.Mathlib.Nat.{lt_of_le_of_lt}
use native.Mathlib.Omega.{arith}
use borrow.Author.Tests.{eqb-true, eq-eqb}
use lib.Bits.{bit_and, and_comm, and_self, and_le_r, and_zero_l}
use lib.Count.{ones}
use lib.Dec.{eqb}
use lib.ListN.{length}
use lib.Pow.{pow_pos}
use Rattle.paper.specs.First.{First, nowhere, at, first, any}
use Rattle.paper.specs.Words.{product, products, sum, ◌⊕◌}
use Rattle.paper.specs.Refusals.{answer, more, refusal}
use Rattle.paper.specs.Sheet.{Sheet, G1, G0, H, M, Admitted, Codeword, WordOf}
use Rattle.paper.specs.Writing.{word_of, fits, fitting, chosen, writes}
use Rattle.paper.specs.Reading.{most_radius, reads}
use Rattle.paper.specs.Plate.{Masked, Hidden, D0, D1, measures_d0, measures_d1}
use Rattle.paper.specs.Promised.{Stuck, Before, Nearest}
use Rattle.words.proofs.Cells.{and-and}
use Rattle.words.proofs.Sums.{sums, ⊕-cancel, ⊕-self, ⊕-zero-l, ⊕-zero-r, ⊕-zero-eq, ⊕-lt, on-mask, ones-⊕, ones-and-le, weight-split}
use Rattle.words.proofs.Products.{product-cases, product-⊕, product-some, product-mask, product-zero-l, products-⊕, products-zero}
use Rattle.words.proofs.Firsts.{first-at, first-all, any_some}
use Rattle.elimination.specs.Evidence.{Evidence}
use Rattle.elimination.proofs.Alternative.{alternative, never_both}
use Rattle.sheet.proofs.Verdicts.{sound}
use Rattle.promises.proofs.Tests.{fails, not-below, any_at, nonzero}
use Rattle.writing.proofs.Breaches.{stuck-passes}
use Rattle.promises.proofs.Answers.{writes-on}
use Rattle.promises.proofs.Order.{write-9}
use Rattle.promises.proofs.Writing.{written-fits, writes-free}
use Rattle.promises.proofs.Reading.{read_first, disturbed-read}
use Rattle.promises.proofs.Plate.{hides, hides-only, hidden-decides, more-d0, more-d1}

-- ---- stuck cells

-- a word fits exactly if its sum of G0 has, at the stuck cells, the levels turned over where the message's sum of G1 has a 1
matches : (s : Sheet) (w stuck levels d : ℕ) → bit_and levels stuck ≡ levels
    → (fits stuck levels (word_of s w d) ≡ true) ↔ (bit_and (sum (G0 s) d) stuck ≡ bit_and (sum (G1 s) w ⊕ levels) stuck)
matches s w stuck levels d h =
    let i = on-mask (sum (G1 s) w) (sum (G0 s) d) levels stuck h in (λ e. i.0 (eqb-true _ _ e), λ e. eq-eqb _ _ (i.1 e))

module _ (s : Sheet) (ok : Admitted s) (w : ℕ) (message : w < 2 ^ s.k) where
  module _ (stuck levels : ℕ) (good : Stuck s stuck levels) where
    -- "fewer than d0 stuck cells at any levels, no message refused", for any v that no masked word weighs less than
    pub fits_below : (v : ℕ) → ((c : ℕ) → Masked s c → v ≤ ones c) → ones stuck < v → (x : ℕ) × (d : ℕ) × (writes s w stuck levels ≡ answer (x ∷ d ∷ []))
    fits_below v least few = written (fitting s w stuck levels) refl
      where
        fit : (d : ℕ) × (d < 2 ^ s.l) × (fits stuck levels (word_of s w d) ≡ true)
        fit = go (alternative (G0 s) stuck (sum (G1 s) w ⊕ levels))
          where
            go : ((d : ℕ) × (d < 2 ^ length (G0 s)) × (bit_and (sum (G0 s) d) stuck ≡ bit_and (sum (G1 s) w ⊕ levels) stuck))
                ⊎ ((c : ℕ) × Evidence (G0 s) stuck (sum (G1 s) w ⊕ levels) c)
                → (d : ℕ) × (d < 2 ^ s.l) × (fits stuck levels (word_of s w d) ≡ true)
            go (inl r) = (r.0, subst (λ (m : ℕ). r.0 < 2 ^ m) (sound s ok).count-G0 r.1, (matches s w stuck levels r.0 good.inside).1 r.2)
            go (inr r) =
                let c : ℕ = r.0 in
                let e : Evidence (G0 s) stuck (sum (G1 s) w ⊕ levels) c = r.1 in
                let m : Masked s c = record {
                  cells = lt_of_le_of_lt (subst (λ (x : ℕ). x ≤ stuck) e.inside (and_le_r c stuck)) good.cells;
                  nonzero = nonzero (λ z. omega (arith, e.odd, ap (λ (x : ℕ). product x (sum (G1 s) w ⊕ levels)) z, product-zero-l (sum (G1 s) w ⊕ levels)));
                  clear = e.even;
                } in
                absurd (omega (arith, least c m, ones-and-le c stuck, ap ones e.inside))

        written : (f : First) → fitting s w stuck levels ≡ f → (x : ℕ) × (d : ℕ) × (writes s w stuck levels ≡ answer (x ∷ d ∷ []))
        written (at d) e = (word_of s w d, d, writes-on s ok w stuck levels message good ∙ ap (chosen s w) e)
        written nowhere e = absurd (true≢false (sym fit.2 ∙ first-all _ (2 ^ s.l) fit.0 e fit.1))

    -- "fewer than d0 stuck cells at any levels, no message refused"
    pub d0-fits : (d0 : ℕ) → D0 s d0 → ones stuck < d0 → (x : ℕ) × (d : ℕ) × (writes s w stuck levels ≡ answer (x ∷ d ∷ []))
    d0-fits d0 D = fits_below d0 D.none-lighter

    -- ""more than the cap" .. and then the first half of demand 3 holds with the cap plus 1 in its place"
    pub more-d0-fits : (cap tried : ℕ) → measures_d0 s cap ≡ more (tried ∷ []) → ones stuck < cap + 1
        → (x : ℕ) × (d : ℕ) × (writes s w stuck levels ≡ answer (x ∷ d ∷ []))
    more-d0-fits cap tried e = fits_below (cap + 1) (more-d0 s cap tried e).far

  -- "for every message some d0 stuck cells with some levels are refused"
  pub d0-tight : (d0 : ℕ) → D0 s d0
      → (stuck : ℕ) × (levels : ℕ) × Stuck s stuck levels × (ones stuck ≡ d0) × (writes s w stuck levels ≡ refusal 9 [])
  d0-tight d0 D = go (product-cases c g)
    where
      c : ℕ
      c = D.word

      g : ℕ
      g = sum (G1 s) w

      refused : (levels : ℕ) → bit_and levels c ≡ levels → product c (g ⊕ levels) ≡ 1
          → (stuck : ℕ) × (levels : ℕ) × Stuck s stuck levels × (ones stuck ≡ d0) × (writes s w stuck levels ≡ refusal 9 [])
      refused levels inside odd =
          let good : Stuck s c levels = record { cells = D.has.cells; inside = inside } in
          let v : Evidence (G0 s) c (g ⊕ levels) c = record { inside = and_self c; even = D.has.clear; odd = odd } in (
            c,
            levels,
            good,
            D.weighs,
            (write-9 s w c levels).1 (
              ok,
              message,
              stuck-passes s c levels good,
              λ d l. fails (fits c levels (word_of s w d)) (λ e. never_both (G0 s) c (g ⊕ levels) c v d ((matches s w c levels d inside).0 e)),
            ),
          )

      -- a cell of c turned over, or none
      go : (product c g ≡ 0) ⊎ (product c g ≡ 1)
          → (stuck : ℕ) × (levels : ℕ) × Stuck s stuck levels × (ones stuck ≡ d0) × (writes s w stuck levels ≡ refusal 9 [])
      go (inr e) = refused 0 (and_zero_l c) (ap (product c) (⊕-zero-r g) ∙ e)
      go (inl e) =
          let x = product-some s.n c D.has.cells (λ z. omega (arith, D.has.nonzero)) in
          let one : product c (bit_and x.0 c) ≡ 1 =
          ap (product c) (and_comm x.0 c) ∙ sym (product-mask c c x.0) ∙ ap (λ (y : ℕ). product y x.0) (and_self c) ∙ x.2 in
          refused (bit_and x.0 c) (and-and x.0 c) (product-⊕ c g (bit_and x.0 c) ∙ ap₂ (λ (u v : ℕ). (u + v) % 2) e one)

-- ---- codewords of different messages

code-⊕ : (s : Sheet) (x y : ℕ) → Codeword s x → Codeword s y → Codeword s (x ⊕ y)
code-⊕ s x y h l = record {
  cells = ⊕-lt s.n x y h.cells l.cells;
  checks = products-⊕ (H s) x y ∙ ap₂ ◌⊕◌ h.checks l.checks ∙ ⊕-zero-l 0;
}

-- the sum of two codewords of different messages is one of a message other than 0
hidden-⊕ : (s : Sheet) (x y : ℕ) → Codeword s x → Codeword s y → (products (M s) x ≡ products (M s) y → ⊥) → Hidden s (x ⊕ y)
hidden-⊕ s x y h l f = record {
  code = code-⊕ s x y h l;
  message = nonzero (λ e. f (⊕-zero-eq (products (M s) x) (products (M s) y) (sym (products-⊕ (M s) x y) ∙ e)));
}

module _ (s : Sheet) (v : ℕ) (far : (c : ℕ) → Hidden s c → v ≤ ones c) where
  -- nearer than v: one message
  same : (x y : ℕ) → Codeword s x → Codeword s y → ones (x ⊕ y) < v → products (M s) x ≡ products (M s) y
  same x y h l near = go (ℕ_discrete (products (M s) x) (products (M s) y))
    where
      go : Dec (products (M s) x ≡ products (M s) y) → products (M s) x ≡ products (M s) y
      go (yes e) = e
      go (no f) = absurd (omega (arith, far (x ⊕ y) (hidden-⊕ s x y h l f)))

  -- "what was written, then disturbed in at most t cells, reads back at radius t, for t up to 4 with 2t below d1",
  -- for any v that no codeword of a message other than 0 weighs less than
  pub reads-back : Admitted s → (w stuck levels x d : ℕ) → writes s w stuck levels ≡ answer (x ∷ d ∷ [])
      → (noise t : ℕ) → noise < 2 ^ s.n → ones noise ≤ t → t ≤ most_radius → 2 * t < v
      → (z : ℕ) × (tried : ℕ) × (reads s (x ⊕ noise) t ≡ answer (w ∷ z ∷ tried ∷ []))
  reads-back ok w stuck levels x d e noise t low few h near =
      let word = (written-fits s w stuck levels x d e).word in
      let y : ℕ = x ⊕ noise in
      let y-low : y < 2 ^ s.n = ⊕-lt s.n x noise word.code.cells low in
      let r = disturbed-read s ok x word.code noise t low few h in
      let f = read_first s y y-low t r.0 r.1 r.2 r.3 in
      let apart : x ⊕ (y ⊕ r.1) ≡ noise ⊕ r.1 = simp sums in
      let m : r.0 ≡ w =
      sym f.message.message
      ∙ sym (same x (y ⊕ r.1) word.code f.message.code (omega (arith, ap ones apart, ones-⊕ noise r.1, f.within))) ∙ word.message in
      (r.1, r.2, subst (λ (i : ℕ). reads s y t ≡ answer (i ∷ r.1 ∷ r.2 ∷ [])) m r.3)

module _ (s : Sheet) (ok : Admitted s) (w stuck levels x d : ℕ) (e : writes s w stuck levels ≡ answer (x ∷ d ∷ []))
    (noise t : ℕ) (low : noise < 2 ^ s.n) (few : ones noise ≤ t) (radius : t ≤ most_radius) where
  -- "what was written, then disturbed in at most t cells, reads back at radius t, for t up to 4 with 2t below d1"
  pub d1-reads-back : (d1 : ℕ) → D1 s d1 → 2 * t < d1 → (z : ℕ) × (tried : ℕ) × (reads s (x ⊕ noise) t ≡ answer (w ∷ z ∷ tried ∷ []))
  d1-reads-back d1 D = reads-back s d1 D.none-lighter ok w stuck levels x d e noise t low few radius

  -- ""more than the cap" .. and then the first half of demand 3 holds with the cap plus 1 in its place"
  pub more-d1-reads-back : (cap tried half : ℕ) → measures_d1 s cap ≡ more (tried ∷ half ∷ []) → 2 * t < cap + 1
      → (z : ℕ) × (tried : ℕ) × (reads s (x ⊕ noise) t ≡ answer (w ∷ z ∷ tried ∷ []))
  more-d1-reads-back cap tried half m = reads-back s (cap + 1) (more-d1 s cap tried half m).0.far ok w stuck levels x d e noise t low few radius

module _ (s : Sheet) (d1 : ℕ) (D : D1 s d1) where
  -- "no two codewords of different messages differ in fewer than d1 cells"
  pub d1-apart : (x y : ℕ) → Codeword s x → Codeword s y → (products (M s) x ≡ products (M s) y → ⊥) → d1 ≤ ones (x ⊕ y)
  d1-apart x y h l f = D.none-lighter (x ⊕ y) (hidden-⊕ s x y h l f)

  -- "and some two differ in exactly d1"
  pub d1-tight : (x : ℕ) × (y : ℕ) × Codeword s x × Codeword s y × (products (M s) x ≡ products (M s) y → ⊥) × (ones (x ⊕ y) ≡ d1)
  d1-tight = (
    D.word,
    0,
    D.has.code,
    record { cells = pow_pos s.n; checks = products-zero (H s) },
    (λ e. omega (arith, D.has.message, e, products-zero (M s))),
    ap ones (⊕-zero-r D.word) ∙ D.weighs,
  )

-- ---- noise that no radius undoes

module _ (s : Sheet) (d1 : ℕ) (D : D1 s d1) where
  -- a and b weigh half of d1, rounded down and up, and make a codeword of a message other than 0
  record Pair (a b : ℕ) : Type 0 where
    pub left-low : a < 2 ^ s.n
    pub right-low : b < 2 ^ s.n
    pub left : ones a ≡ d1 / 2
    pub right : ones b ≡ (d1 + 1) / 2
    pub sum : Hidden s (a ⊕ b)

  -- the same as a test, so that the first can be searched for
  abbrev pairs : ℕ → ℕ → Bool
  pairs a b = eqb (ones a) (d1 / 2) && (eqb (ones b) ((d1 + 1) / 2) && hides s (a ⊕ b))

  pair_of : (a b : ℕ) → a < 2 ^ s.n → b < 2 ^ s.n → pairs a b ≡ true → Pair a b
  pair_of a b l m e =
      let p = (and-eq-true_iff (eqb (ones a) (d1 / 2)) (eqb (ones b) ((d1 + 1) / 2) && hides s (a ⊕ b))).0 e in
      let q = (and-eq-true_iff (eqb (ones b) ((d1 + 1) / 2)) (hides s (a ⊕ b))).0 p.1 in
      record {
        left-low = l;
        right-low = m;
        left = eqb-true _ _ p.0;
        right = eqb-true _ _ q.0;
        sum = hides-only s (a ⊕ b) (⊕-lt s.n a b l m) q.1;
      }

  of_pair : (a b : ℕ) → Pair a b → pairs a b ≡ true
  of_pair a b h = rw (eq-eqb (ones a) (d1 / 2) h.left, eq-eqb (ones b) ((d1 + 1) / 2) h.right) ((hidden-decides s).all (a ⊕ b) h.sum)

  -- the pair whose lighter word is the first number
  first-pair : (a : ℕ) × (b : ℕ) × Pair a b × ((u c : ℕ) → Pair u c → a ≤ u)
  first-pair = go (first (2 ^ s.n) paired) refl
    where
      paired : ℕ → Bool
      paired a = any (2 ^ s.n) (pairs a)

      of_some : (a b : ℕ) → Pair a b → paired a ≡ true
      of_some a b h = any_some (pairs a) b (2 ^ s.n) h.right-low (of_pair a b h)

      go : (f : First) → first (2 ^ s.n) paired ≡ f → (a : ℕ) × (b : ℕ) × Pair a b × ((u c : ℕ) → Pair u c → a ≤ u)
      go (at a) e =
          let f = first-at paired (2 ^ s.n) a e in
          let b = any_at (pairs a) (2 ^ s.n) f.1 in
          (a, b.0, pair_of a b.0 f.0 b.1 b.2, λ u c h. not-below u a (of_some u c h) (f.2 u))
      go nowhere e =
          let h = weight-split s.n D.word (d1 / 2) D.has.code.cells (omega (arith, D.weighs)) in
          let p : Pair h.part h.rest = record {
            left-low = h.part-lt;
            right-low = h.rest_lt;
            left = h.part-weight;
            right = omega (arith, h.rest-weight, D.weighs);
            sum = subst (Hidden s) (sym h.sum) D.has;
          } in
          absurd (true≢false (sym (of_some h.part h.rest p) ∙ first-all paired (2 ^ s.n) h.part e h.part-lt))

  -- at a word of message w disturbed by b, no radius reads w: the first pair's a is a hit of another message, and a hit before it would be the
  -- lighter word of a pair, and so not before it
  wrong : (a b : ℕ) → Pair a b → ((u c : ℕ) → Pair u c → a ≤ u) → (w x : ℕ) → WordOf s w x
      → (t z tried : ℕ) → Nearest s (x ⊕ b) t w z tried → ⊥
  wrong a b pair least w x word t z tried near = go (near.first a pair.left-low (subst (Codeword s) there other))
    where
      other : Codeword s (x ⊕ (a ⊕ b))
      other = code-⊕ s x (a ⊕ b) word.code pair.sum.code

      there : x ⊕ (a ⊕ b) ≡ (x ⊕ b) ⊕ a
      there = simp sums

      differs : products (M s) (x ⊕ (a ⊕ b)) ≡ w → ⊥
      differs e =
          omega (
            arith,
            pair.sum.message,
            sym (⊕-cancel w (products (M s) (a ⊕ b)))
                ∙ ap (λ (v : ℕ). w ⊕ v) (ap (λ (v : ℕ). v ⊕ products (M s) (a ⊕ b)) (sym word.message) ∙ sym (products-⊕ (M s) x (a ⊕ b)) ∙ e) ∙ ⊕-self w,
          )

      hidden : Hidden s (z ⊕ a)
      hidden =
          subst (Hidden s) (let e : (x ⊕ (a ⊕ b)) ⊕ ((x ⊕ b) ⊕ z) ≡ z ⊕ a = simp sums in e)
          (hidden-⊕ s (x ⊕ (a ⊕ b)) ((x ⊕ b) ⊕ z) other near.message.code (λ e. differs (e ∙ near.message.message)))

      go : Before z a → ⊥
      go (inl l) = omega (arith, D.none-lighter (z ⊕ a) hidden, ones-⊕ z a, pair.left)
      go (inr q) =
          let first : a ≤ z = least z a (record {
            left-low = near.cells;
            right-low = pair.left-low;
            left = q.0 ∙ pair.left;
            right = omega (arith, D.none-lighter (z ⊕ a) hidden, ones-⊕ z a, pair.left, q.0);
            sum = hidden;
          }) in
          let e : a ≡ z = omega (arith, q.1) in
          differs (ap (products (M s)) (there ∙ ap (λ (u : ℕ). (x ⊕ b) ⊕ u) e) ∙ near.message.message)

  -- "every message's word, written with nothing stuck, can be disturbed in half of d1 cells, rounded up, so that no radius .. reads that message back"
  pub misread : Admitted s → (w : ℕ) → w < 2 ^ s.k
      → (x : ℕ) × (d : ℕ) × (writes s w 0 0 ≡ answer (x ∷ d ∷ []))
      × (noise : ℕ) × (noise < 2 ^ s.n) × (ones noise ≡ (d1 + 1) / 2)
      × ((t m z tried : ℕ) → reads s (x ⊕ noise) t ≡ answer (m ∷ z ∷ tried ∷ []) → m ≡ w → ⊥)
  misread ok w l =
      let e = writes-free s w ok l in
      let word = (written-fits s w 0 0 (word_of s w 0) 0 e).word in
      let f = first-pair in
      let low : word_of s w 0 ⊕ f.1 < 2 ^ s.n = ⊕-lt s.n (word_of s w 0) f.1 word.code.cells f.2.right-low in (
        word_of s w 0,
        0,
        e,
        f.1,
        f.2.right-low,
        f.2.right,
        λ t m z tried r q.
            wrong f.0 f.1 f.2 f.3 w (word_of s w 0) word t z tried
            (subst (λ (i : ℕ). Nearest s (word_of s w 0 ⊕ f.1) t i z tried) q (read_first s (word_of s w 0 ⊕ f.1) low t m z tried r)),
      )
