-- The plate: both distances exist and are at least 1, and "A measured distance equals the defined one".
-- Demand 3 speaks of the distances as defined here; the rest of it starts from these. Assumes nothing.
use mathlib.Core.Path.{◌≡◌, refl, sym, ap, ◌∙◌, subst}
use mathlib.Core.Bool.{and-eq-true_iff, Bool, true, not, ◌&&◌}
use mathlib.Core.List.{[], ◌∷◌}
use Prim.Native.Nat.{ℕ, ◌+◌, ◌^◌, ◌≤◌, ◌<◌}
use native.Mathlib.Nat.{zero-lt-suc}
use native.Mathlib.Omega.{arith}
use borrow.Author.Tests.{eqb-true, eqb-false, eq-eqb, ne_eqb, not-true}
use lib.Count.{ones}
use lib.Dec.{eqb}
use lib.ListN.{length, get_or}
use lib.Pow.{pow-lt}
use Rattle.paper.specs.Words.{product, products, sum}
use Rattle.paper.specs.Listing.{Search, found, missed, search, weights}
use Rattle.paper.specs.Refusals.{answer, more}
use Rattle.paper.specs.Sheet.{Sheet, G1, G0, H, M, Admitted}
use Rattle.paper.specs.Writing.{word_of}
use Rattle.paper.specs.Plate.{Least, Masked, Hidden, D0, D1, most_cap, printed, printed_beyond, search_d0, search_d1, plate_d0, plate_d1, measures_d0, measures_d1}
use Rattle.paper.specs.Promised.{Measured, Beyond}
use Rattle.words.proofs.Cells.{no_cell}
use Rattle.words.proofs.Sums.{ones-zero, ones_pos, ones-unit}
use Rattle.words.proofs.Products.{product-comm, product-unit, product-zero-l, product-zero-r, cell-products, products_lt, products-nil, products-zero}
use Rattle.words.proofs.Rows.{sum-unit, product-sum}
use Rattle.elimination.proofs.Span.{span-lt, sum-span}
use Rattle.sheet.specs.Sound.{Sound}
use Rattle.sheet.proofs.Verdicts.{sound}
use Rattle.sheet.proofs.Messages.{clear-sum, read_back, word-of}
use Rattle.listing.proofs.Searched.{found_first, missed-none, hit-found}
use Rattle.promises.proofs.Tests.{not-below, nonzero}
use Rattle.promises.proofs.Answers.{measure-d0-told, measure-d1-told, measures_d0-on, measures_d1-on}
use Rattle.promises.proofs.Places.{found-placed}
use Rattle.promises.proofs.Reading.{before-weight, before-all}

-- ---- the least weight of a word with a property

-- there is one least weight
pub least-once : {P : ℕ → Type 0} {d e : ℕ} → Least P d → Least P e → d ≡ e
least-once a b = omega (arith, a.none-lighter b.word b.has, b.none-lighter a.word a.has, a.weighs, b.weighs)

-- a property of some words over n cells, none of them 0, and a test of it
pub record Decides (n : ℕ) (P : ℕ → Type 0) (p : ℕ → Bool) : Type 0 where
  pub low : (x : ℕ) → P x → x < 2 ^ n
  pub some : (x : ℕ) → P x → 1 ≤ ones x
  pub all : (x : ℕ) → P x → p x ≡ true
  pub only : (x : ℕ) → x < 2 ^ n → 1 ≤ ones x → p x ≡ true → P x

-- so the least weight is more than the cap
pub beyond-least : {P : ℕ → Type 0} {n cap tried d : ℕ} → Beyond P n cap tried → Least P d → cap < d
beyond-least b h = omega (arith, b.far h.word h.has, h.weighs)

module _ {n : ℕ} {P : ℕ → Type 0} {p : ℕ → Bool} (D : Decides n P p) where
  -- no least weight is 0
  pub least-some : {d : ℕ} → Least P d → 1 ≤ d
  least-some h = omega (arith, D.some h.word h.has, h.weighs)

  module _ (cap : ℕ) where
    -- what a search that hits measures, and one that misses
    pub found-measured : {z tried : ℕ} → search p 0 (weights n 1 cap) ≡ found z tried → Measured P n cap (ones z) tried
    found-measured {z} {tried} e =
        let f = found_first p n 1 cap e in
        let h = D.only z f.cells f.low f.passes in
        record {
          distance = record {
            word = z;
            has = h;
            weighs = refl;
            none-lighter = λ x q. before-weight z x (before-all z x (1 + cap) f.high (λ l. f.first x (D.low x q) (D.some x q) l (D.all x q)));
          };
          within = omega (arith, f.high);
          hit = z;
          weighs = refl;
          place = found-placed p D.all e h;
        }

    pub missed-beyond : {tried : ℕ} → search p 0 (weights n 1 cap) ≡ missed tried → Beyond P n cap tried
    missed-beyond e =
        let m = missed-none p n 1 cap e in
        record { whole = m.0; far = λ x q. omega (arith, not-below (ones x) (1 + cap) (D.all x q) (m.1 x (D.low x q) (D.some x q))) }

    -- the search hits where the least weight is within the cap, at that weight, and misses where it is above
    pub within-found : {d : ℕ} → Least P d → d ≤ cap → (z : ℕ) × (tried : ℕ) × (search p 0 (weights n 1 cap) ≡ found z tried) × (ones z ≡ d)
    within-found h l =
        let f = hit-found p n 1 cap h.word (D.low _ h.has) (D.some _ h.has) (omega (arith, h.weighs)) (D.all _ h.has) in
        (f.0, f.1, f.2, least-once (found-measured f.2).distance h)

    pub above-missed : {d : ℕ} → Least P d → cap < d → (tried : ℕ) × (search p 0 (weights n 1 cap) ≡ missed tried)
    above-missed {d} h l = go (search p 0 (weights n 1 cap)) refl
      where
        go : (f : Search) → search p 0 (weights n 1 cap) ≡ f → (tried : ℕ) × (search p 0 (weights n 1 cap) ≡ missed tried)
        go (missed tried) e = (tried, e)
        go (found z tried) e = let m = found-measured e in absurd (omega (arith, least-once m.distance h, m.within))

  -- one word is enough: the search up to its weight hits
  pub least-exists : (x : ℕ) → P x → (d : ℕ) × Least P d
  least-exists x h =
      let f = hit-found p n 1 (ones x) x (D.low x h) (D.some x h) (omega arith) (D.all x h) in
      (ones f.0, (found-measured (ones x) f.2).distance)

-- ---- the two distances

-- the tests of the two searches
abbrev masks : Sheet → ℕ → Bool
masks s z = eqb (products (G0 s) z) 0

abbrev pub hides : Sheet → ℕ → Bool
hides s z = eqb (products (H s) z) 0 && not (eqb (products (M s) z) 0)

module _ (s : Sheet) where
  -- they test what the distances are the least weights of
  masked-decides : Decides s.n (Masked s) (masks s)
  masked-decides = record {
    low = λ x h. h.cells;
    some = λ x h. ones_pos x h.nonzero;
    all = λ x h. eq-eqb _ _ h.clear;
    only = λ x l o e. record {
      cells = l;
      nonzero = nonzero (λ z. omega (arith, ap ones z, ones-zero));
      clear = eqb-true _ _ e;
    };
  }

  pub hides-only : (x : ℕ) → x < 2 ^ s.n → hides s x ≡ true → Hidden s x
  hides-only x l e =
      let b = (and-eq-true_iff (eqb (products (H s) x) 0) (not (eqb (products (M s) x) 0))).0 e in
      record {
        code = record { cells = l; checks = eqb-true _ _ b.0 };
        message = nonzero (eqb-false _ _ (not-true _ b.1));
      }

  pub hidden-decides : Decides s.n (Hidden s) (hides s)
  hidden-decides = record {
    low = λ x h. h.code.cells;
    some = λ x h. ones_pos x (nonzero (λ z. omega (arith, h.message, ap (products (M s)) z, products-zero (M s))));
    all = λ x h. rw (eq-eqb (products (H s) x) 0 h.code.checks, ne_eqb (products (M s) x) 0 (λ e. omega (arith, h.message)));
    only = λ x l o. hides-only x l;
  }

  -- "By the definition neither is below 1": d0's word is nonzero by definition, and d1's has a message other than 0
  pub d1-some : {d : ℕ} → D1 s d → 1 ≤ d
  d1-some = least-some hidden-decides

module _ (s : Sheet) (ok : Admitted s) where
  -- "Both exist, since k ≥ 1": row 0 of M has product 0 with every row of G0, and product 1 with row 0 of G1
  pub d0-exists : (d : ℕ) × D0 s d
  d0-exists = least-exists (masked-decides s) (sum (M s) 1) (record {
    cells = span-lt s.n (M s) a.low-M (sum (M s) 1) (sum-span (M s) 1);
    nonzero = nonzero (λ z. omega (arith, one, ap (λ (x : ℕ). product x (sum (G1 s) 1)) z, product-zero-l (sum (G1 s) 1)));
    clear = no_cell (length (G0 s)) (products_lt (G0 s) (sum (M s) 1)) (λ j l.
        cell-products (G0 s) (sum (M s) 1) j ∙ product-comm (get_or (G0 s) j 0) (sum (M s) 1)
        ∙ product-sum (M s) 1 (get_or (G0 s) j 0)
        ∙ ap (product 1) (ap (products (M s)) (sym (sum-unit (G0 s) j)) ∙ clear-sum (M s) (G0 s) a.message-G0 (2 ^ j)) ∙ product-zero-r 1);
  })
    where
      a : Sound s
      a = sound s ok

      one : product (sum (M s) 1) (sum (G1 s) 1) ≡ 1
      one = product-sum (M s) 1 (sum (G1 s) 1) ∙ ap (product 1) (read_back s a 1 (pow-lt a.shape.some-message)) ∙ product-unit 1 0

  -- row 0 of G1 is a codeword of message 1
  pub d1-exists : (d : ℕ) × D1 s d
  d1-exists =
      let a = sound s ok in
      let w = word-of s a 1 0 (pow-lt a.shape.some-message) in
      least-exists (hidden-decides s) (word_of s 1 0) (record { code = w.code; message = omega (arith, w.message) })

  -- "for l = 0, d0 is 1"
  pub d0-one : s.l ≡ 0 → D0 s 1
  d0-one e = record {
    word = 1;
    has = record { cells = pow-lt (sound s ok).shape.some-cells; nonzero = zero-lt-suc 0; clear = rw e (products-nil 1) };
    weighs = ones-unit 0;
    none-lighter = λ x h. ones_pos x h.nonzero;
  }

-- ---- "A measured distance equals the defined one"

found_d0 : (f : Search) (d tried : ℕ) → plate_d0 f ≡ answer (d ∷ tried ∷ []) → (z : ℕ) × (f ≡ found z tried) × (ones z ≡ d)
found_d0 (found z u) d tried e = let q : u ≡ tried = cc in (z, ap (found z) q, cc)
found_d0 (missed u) d tried e = let z : ◌≡◌ {A = ℕ} 0 1 = cc in absurd (omega arith)

missed_d0 : (f : Search) (tried : ℕ) → plate_d0 f ≡ more (tried ∷ []) → f ≡ missed tried
missed_d0 (missed u) tried e = let q : u ≡ tried = cc in ap missed q
missed_d0 (found z u) tried e = let z : ◌≡◌ {A = ℕ} 0 1 = cc in absurd (omega arith)

found_d1 : (cap : ℕ) (f : Search) (d tried radius : ℕ) → plate_d1 cap f ≡ answer (d ∷ tried ∷ radius ∷ [])
    → (z : ℕ) × (f ≡ found z tried) × (ones z ≡ d) × (radius ≡ printed d)
found_d1 cap (found z u) d tried radius e =
    let q : u ≡ tried = cc in let o : ones z ≡ d = cc in let h : printed (ones z) ≡ radius = cc in (z, ap (found z) q, o, omega arith)
found_d1 cap (missed u) d tried radius e = let z : ◌≡◌ {A = ℕ} 0 1 = cc in absurd (omega arith)

missed_d1 : (cap : ℕ) (f : Search) (tried radius : ℕ) → plate_d1 cap f ≡ more (tried ∷ radius ∷ []) → (f ≡ missed tried) × (radius ≡ printed_beyond cap)
missed_d1 cap (missed u) tried radius e = let q : u ≡ tried = cc in (ap missed q, cc)
missed_d1 cap (found z u) tried radius e = let z : ◌≡◌ {A = ℕ} 0 1 = cc in absurd (omega arith)

module _ (s : Sheet) (cap : ℕ) where
  -- what an answer says
  pub answered-d0 : (d tried : ℕ) → measures_d0 s cap ≡ answer (d ∷ tried ∷ []) → Measured (Masked s) s.n cap d tried
  unfolding search_d0
  answered-d0 d tried e =
      let b = found_d0 (search_d0 s cap) d tried ((measure-d0-told s cap (answer (d ∷ tried ∷ [])) refl refl).0 e).2 in
      subst (λ (v : ℕ). Measured (Masked s) s.n cap v tried) b.2 (found-measured (masked-decides s) cap b.1)

  pub more-d0 : (tried : ℕ) → measures_d0 s cap ≡ more (tried ∷ []) → Beyond (Masked s) s.n cap tried
  unfolding search_d0
  more-d0 tried e =
      missed-beyond (masked-decides s) cap (missed_d0 (search_d0 s cap) tried ((measure-d0-told s cap (more (tried ∷ [])) refl refl).0 e).2)

  -- "the printed radius is half of d1 - 1, rounded down. Where d1 is more than the cap it stays as it was", half of the cap, rounded down
  pub answered-d1 : (d tried radius : ℕ) → measures_d1 s cap ≡ answer (d ∷ tried ∷ radius ∷ [])
      → Measured (Hidden s) s.n cap d tried × (radius ≡ printed d)
  unfolding search_d1
  answered-d1 d tried radius e =
      let b = found_d1 cap (search_d1 s cap) d tried radius ((measure-d1-told s cap (answer (d ∷ tried ∷ radius ∷ [])) refl refl).0 e).2 in
      (subst (λ (v : ℕ). Measured (Hidden s) s.n cap v tried) b.2 (found-measured (hidden-decides s) cap b.1), b.3)

  pub more-d1 : (tried radius : ℕ) → measures_d1 s cap ≡ more (tried ∷ radius ∷ []) → Beyond (Hidden s) s.n cap tried × (radius ≡ printed_beyond cap)
  unfolding search_d1
  more-d1 tried radius e =
      let b = missed_d1 cap (search_d1 s cap) tried radius ((measure-d1-told s cap (more (tried ∷ radius ∷ [])) refl refl).0 e).2 in
      (missed-beyond (hidden-decides s) cap b.0, b.1)

  module _ (ok : Admitted s) (from : 1 ≤ cap) (to : cap ≤ most_cap) (d : ℕ) where
    -- "A measured distance equals the defined one; "more than the cap" is answered exactly when the defined one is above the cap"
    pub measured-d0 : D0 s d
        → (d ≤ cap → (tried : ℕ) × (measures_d0 s cap ≡ answer (d ∷ tried ∷ []))) × (cap < d → (tried : ℕ) × (measures_d0 s cap ≡ more (tried ∷ [])))
    unfolding search_d0
    measured-d0 h = (
      λ l. let f = within-found (masked-decides s) cap h l in
          (f.1, measures_d0-on s ok cap from to ∙ ap plate_d0 f.2 ∙ ap (λ (v : ℕ). answer (v ∷ f.1 ∷ [])) f.3),
      λ l. let f = above-missed (masked-decides s) cap h l in (f.0, measures_d0-on s ok cap from to ∙ ap plate_d0 f.1),
    )

    pub measured-d1 : D1 s d
        → (d ≤ cap → (tried : ℕ) × (measures_d1 s cap ≡ answer (d ∷ tried ∷ printed d ∷ [])))
        × (cap < d → (tried : ℕ) × (measures_d1 s cap ≡ more (tried ∷ printed_beyond cap ∷ [])))
    unfolding search_d1
    measured-d1 h = (
      λ l. let f = within-found (hidden-decides s) cap h l in
          (f.1, measures_d1-on s ok cap from to ∙ ap (plate_d1 cap) f.2 ∙ ap (λ (v : ℕ). answer (v ∷ f.1 ∷ printed v ∷ [])) f.3),
      λ l. let f = above-missed (hidden-decides s) cap h l in (f.0, measures_d1-on s ok cap from to ∙ ap (plate_d1 cap) f.1),
    )
