-- Demand 2 for reading: reading gives the nearest codeword's message within the radius, or says that there is none.
-- Demand 3's reading back starts from these. Assumes nothing.
use mathlib.Core.Path.{◌≡◌, refl, sym, ap, ◌∙◌, subst}
use mathlib.Core.Bool.{Bool, true}
use mathlib.Core.Logic.{inl, inr}
use mathlib.Core.List.{[], ◌∷◌}
use Prim.Native.Nat.{ℕ, ◌+◌, ◌^◌, ◌≤◌, ◌<◌}
use native.Mathlib.Decide.{dec_lt}
use native.Mathlib.Omega.{arith}
use borrow.Author.Tests.{eqb-true, eq-eqb}
use lib.Count.{ones}
use lib.Dec.{eqb}
use lib.ListN.{length}
use Rattle.paper.specs.Words.{products, ◌⊕◌}
use Rattle.paper.specs.Listing.{Search, found, missed, weights}
use Rattle.paper.specs.Refusals.{answer, refusal}
use Rattle.paper.specs.Sheet.{Sheet, H, M, Admitted, Codeword}
use Rattle.paper.specs.Reading.{most_radius, nearest, heard, reads}
use Rattle.paper.specs.Promised.{Before, Nearest}
use Rattle.words.proofs.Sums.{sums, ⊕-cancel, ⊕-lt}
use Rattle.listing.proofs.Searched.{found_first, missed-none, hit-found}
use Rattle.promises.proofs.Tests.{not-below}
use Rattle.rules.proofs.Rules.{not-told}
use Rattle.promises.proofs.Answers.{read_told, reads_on}
use Rattle.promises.proofs.Order.{read-12}
use Rattle.promises.proofs.Places.{found-placed}

-- the list goes by weight
pub before-weight : (a b : ℕ) → Before a b → ones a ≤ ones b
before-weight a b (inl h) = omega arith
before-weight a b (inr h) = omega (arith, h.0)

-- a word listed below a weight is not after the words of that weight or more
pub before-all : (z u end : ℕ) → ones z < end → (ones u < end → Before z u) → Before z u
before-all z u end h f = go (dec_lt (ones u) end)
  where
    go : Dec (ones u < end) → Before z u
    go (yes l) = f l
    go (no l) = inl (omega arith)

module _ (s : Sheet) (y : ℕ) (low : y < 2 ^ s.n) where
  -- the test of the search
  abbrev hits : ℕ → Bool
  hits z = eqb (products (H s) (y ⊕ z)) 0

  -- it tests for codewords
  hits-all : (u : ℕ) → Codeword s (y ⊕ u) → hits u ≡ true
  hits-all u c = eq-eqb _ _ c.checks

  hits-only : (u : ℕ) → u < 2 ^ s.n → hits u ≡ true → Codeword s (y ⊕ u)
  hits-only u l e = record { cells = ⊕-lt s.n y u low l; checks = eqb-true _ _ e }

  module _ (t : ℕ) where
    -- demand 2: "reading gives the nearest codeword's message within the radius"
    pub read_first : (m z tried : ℕ) → reads s y t ≡ answer (m ∷ z ∷ tried ∷ []) → Nearest s y t m z tried
    unfolding nearest
    read_first m z tried e =
        let a = (read_told s y t (answer (m ∷ z ∷ tried ∷ [])) refl refl refl).0 e in
        let b = named (nearest s y t) a.3 in
        let f = found_first hits s.n 0 (t + 1) b.0 in
        let c = hits-only z f.cells f.passes in
        record {
          message = record { code = c; message = b.1 };
          cells = f.cells;
          within = omega (arith, f.high);
          first = λ u l d. before-all z u (0 + (t + 1)) f.high (λ q. f.first u l (omega arith) q (hits-all u d));
          place = found-placed hits hits-all b.0 c;
        }
      where
        named : (f : Search) → heard s y f ≡ answer (m ∷ z ∷ tried ∷ []) → (f ≡ found z tried) × (products (M s) (y ⊕ z) ≡ m)
        named (found x u) q =
            let p : x ≡ z = cc in let p' : u ≡ tried = cc in let p'' : products (M s) (y ⊕ x) ≡ m = cc in
            (cc, ap (λ (v : ℕ). products (M s) (y ⊕ v)) (sym p) ∙ p'')
        named (missed u) q = not-told q refl

    -- no codeword is nearer
    pub read-nearest : (m z tried : ℕ) → reads s y t ≡ answer (m ∷ z ∷ tried ∷ []) → (x : ℕ) → Codeword s x → ones z ≤ ones (y ⊕ x)
    read-nearest m z tried e x c =
        before-weight z (y ⊕ x)
        ((read_first m z tried e).first (y ⊕ x) (⊕-lt s.n y x low c.cells) (subst (Codeword s) (sym (⊕-cancel y x)) c))

    -- "or says there is none": refusal 12 only if no codeword lies within the radius, "number tried: all of the list"
    pub refused-far : (tried : ℕ) → reads s y t ≡ refusal 12 (tried ∷ [])
        → (tried ≡ length (weights s.n 0 (t + 1))) × ((x : ℕ) → Codeword s x → t < ones (y ⊕ x))
    unfolding nearest
    refused-far tried e =
        let a = (read-12 s y t tried).0 e in
        let b = missed-none hits s.n 0 (t + 1) a.3 in (
          b.0,
          λ x c.
              omega (
                arith,
                not-below (ones (y ⊕ x)) (0 + (t + 1)) (hits-all (y ⊕ x) (subst (Codeword s) (sym (⊕-cancel y x)) c))
                    (b.1 (y ⊕ x) (⊕-lt s.n y x low c.cells) (omega arith)),
              ),
        )

    -- and always if none does
    pub far-refused : Admitted s → t ≤ most_radius → ((x : ℕ) → Codeword s x → t < ones (y ⊕ x))
        → reads s y t ≡ refusal 12 (length (weights s.n 0 (t + 1)) ∷ [])
    unfolding nearest
    far-refused ok h far = reads_on s ok y t low h ∙ go (nearest s y t) refl
      where
        go : (f : Search) → nearest s y t ≡ f → heard s y f ≡ refusal 12 (length (weights s.n 0 (t + 1)) ∷ [])
        go (missed u) e = ap (λ (v : ℕ). refusal 12 (v ∷ [])) (missed-none hits s.n 0 (t + 1) e).0
        go (found z u) e =
            let f = found_first hits s.n 0 (t + 1) e in
            absurd (omega (arith, f.high, far (y ⊕ z) (hits-only z f.cells f.passes), ap ones (⊕-cancel y z)))

    -- a codeword within the radius is read
    pub near-read : Admitted s → t ≤ most_radius → (u : ℕ) → u < 2 ^ s.n → Codeword s (y ⊕ u) → ones u ≤ t
        → (m : ℕ) × (z : ℕ) × (tried : ℕ) × (reads s y t ≡ answer (m ∷ z ∷ tried ∷ []))
    unfolding nearest
    near-read ok h u l c near =
        let f = hit-found hits s.n 0 (t + 1) u l (omega arith) (omega arith) (hits-all u c) in
        (products (M s) (y ⊕ f.0), f.0, f.1, reads_on s ok y t low h ∙ ap (heard s y) f.2)

-- so a codeword disturbed in at most t cells is read at radius t, as its own message or another
pub disturbed-read : (s : Sheet) → Admitted s → (x : ℕ) → Codeword s x → (noise t : ℕ) → noise < 2 ^ s.n → ones noise ≤ t → t ≤ most_radius
    → (m : ℕ) × (z : ℕ) × (tried : ℕ) × (reads s (x ⊕ noise) t ≡ answer (m ∷ z ∷ tried ∷ []))
disturbed-read s ok x c noise t low few h =
    let back : x ≡ (x ⊕ noise) ⊕ noise = simp sums in
    near-read s (x ⊕ noise) (⊕-lt s.n x noise c.cells low) t ok h noise low (subst (Codeword s) back c) few
