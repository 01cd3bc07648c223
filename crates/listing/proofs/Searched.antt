-- What a search finds, for any test: the first word of the list that passes and its place, or that no word passes.
-- For what the answers of reading and of measuring mean, and for the steps of the code's search. Assumes nothing.
use mathlib.Core.Path.{◌≡◌, refl, sym, ap, ap₂, ◌∙◌, subst}
use mathlib.Core.Logic.{inr, ⊎_elim}
use mathlib.Core.Bool.{Bool, true, false, true≢false}
use mathlib.Core.List.Memᴰ
use mathlib.Core.List.{List, [], ◌∷◌, ◌++◌, Memᴰ}
use Prim.Native.Nat.{ℕ, zero, suc, ◌+◌, ◌-◌, ◌^◌, ◌≤◌, ◌<◌}
use native.Mathlib.Omega.{arith}
use lib.Count.{ones}
use lib.ListN.{length, get_or, length-append, get_or-append}
use lib.Seq.{get_or_at}
use Rattle.paper.specs.Listing.{Search, found, missed, search, weights}
use Rattle.paper.specs.Promised.{Before}
use Rattle.listing.proofs.Listed.{Ordered, ordered-after, weights-of, weights-in, weights-ordered}

-- ---- one word, and one list after another

module _ (p : ℕ → Bool) (t z : ℕ) (zs : List ℕ) where
  -- the first word passes
  pub search-hit : p z ≡ true → search p t (z ∷ zs) ≡ found z (t + 1)
  unfolding search
  search-hit e = rw (search, e)

  -- the first word fails
  pub search-miss : p z ≡ false → search p t (z ∷ zs) ≡ search p (t + 1) zs
  unfolding search
  search-miss e = rw (search, e)

-- what was found, or else what goes on from the number tried
abbrev pub or_else : Search → (ℕ → Search) → Search
or_else (found z tried) next = found z tried
or_else (missed tried) next = next tried

-- the search of two lists, one after the other
pub search-append : (p : ℕ → Bool) (xs ys : List ℕ) (t : ℕ) → search p t (xs ++ ys) ≡ or_else (search p t xs) (λ u. search p u ys)
unfolding search
search-append p [] ys t = refl
search-append p (x ∷ xs) ys t = go (p x) (search-append p xs ys (t + 1))
  where
    go : (b : Bool) → search p (t + 1) (xs ++ ys) ≡ or_else (search p (t + 1) xs) (λ u. search p u ys)
        → elim b [ true ↦ found x (t + 1) | false ↦ search p (t + 1) (xs ++ ys) ]
        ≡ or_else (elim b [ true ↦ found x (t + 1) | false ↦ search p (t + 1) xs ]) (λ u. search p u ys)
    go true e = refl
    go false e = e

-- tests that agree find the same
pub search-same : (p q : ℕ → Bool) → ((z : ℕ) → p z ≡ q z) → (t : ℕ) (zs : List ℕ) → search p t zs ≡ search q t zs
unfolding search
search-same p q h t [] = refl
search-same p q h t (z ∷ zs) =
    ap₂ (λ (b : Bool) (f : Search). elim b [ true ↦ found z (t + 1) | false ↦ f ]) (h z) (search-same p q h (t + 1) zs)

-- ---- what an answer says of a list

-- z is the first of the list that passes, and u its place, counted on from t
record Hit (p : ℕ → Bool) (t : ℕ) (zs : List ℕ) (z u : ℕ) : Type 0 where
  pub before : List ℕ
  pub after : List ℕ
  pub split : zs ≡ before ++ z ∷ after
  pub place : u ≡ t + length before + 1
  pub passes : p z ≡ true
  pub fails : (x : ℕ) → Memᴰ x before → p x ≡ false

-- no word of the list passes, and u counts them all, on from t
record Miss (p : ℕ → Bool) (t : ℕ) (zs : List ℕ) (u : ℕ) : Type 0 where
  pub place : u ≡ t + length zs
  pub fails : (x : ℕ) → Memᴰ x zs → p x ≡ false

-- what an answer says
abbrev Told : (ℕ → Bool) → ℕ → List ℕ → Search → Type 0
Told p t zs (found z u) = Hit p t zs z u
Told p t zs (missed u) = Miss p t zs u

-- one word more, in front
told-cons : (p : ℕ → Bool) (t x : ℕ) (xs : List ℕ) (b : Bool) → p x ≡ b → (f : Search) → Told p (t + 1) xs f
    → Told p t (x ∷ xs) (elim b [ true ↦ found x (t + 1) | false ↦ f ])
told-cons p t x xs true e f h = record {
  before = [];
  after = xs;
  split = refl;
  place = omega arith;
  passes = e;
  fails = λ y m. absurd (Memᴰ.not-nil m);
}
told-cons p t x xs false e (found z u) h = record {
  before = x ∷ h.before;
  after = h.after;
  split = ap (λ (l : List ℕ). x ∷ l) h.split;
  place = omega (arith, h.place);
  passes = h.passes;
  fails = λ y m. ⊎_elim (λ k. ap p k ∙ e) (h.fails y) (Memᴰ.cases_cons m);
}
told-cons p t x xs false e (missed u) h = record {
  place = omega (arith, h.place);
  fails = λ y m. ⊎_elim (λ k. ap p k ∙ e) (h.fails y) (Memᴰ.cases_cons m);
}

-- the answer of a search is what it says
told : (p : ℕ → Bool) (zs : List ℕ) (t : ℕ) → Told p t zs (search p t zs)
unfolding search
told p [] t = record { place = omega arith; fails = λ y m. absurd (Memᴰ.not-nil m) }
told p (x ∷ xs) t = told-cons p t x xs (p x) refl (search p (t + 1) xs) (told p xs (t + 1))

module _ (p : ℕ → Bool) (zs : List ℕ) (t : ℕ) where
  -- what `found` says
  hit : {z u : ℕ} → search p t zs ≡ found z u → Hit p t zs z u
  hit e = subst (Told p t zs) e (told p zs t)

  -- what `missed` says
  miss : {u : ℕ} → search p t zs ≡ missed u → Miss p t zs u
  miss e = subst (Told p t zs) e (told p zs t)

  -- all of the list was tried
  pub missed-all : {u : ℕ} → search p t zs ≡ missed u → u ≡ t + length zs
  missed-all e = (miss e).place

-- ---- the place of what is found

-- what stands at a place of a list is in it
get_or-in : (l : List ℕ) (j : ℕ) → j < length l → Memᴰ (get_or l j 0) l
get_or-in [] j h = absurd (omega arith)
get_or-in (x ∷ xs) zero h = Memᴰ.head refl
get_or-in (x ∷ xs) (suc j) h = Memᴰ.tail (get_or-in xs j (omega arith))

-- "the place of z in the list, counted from 1", and no earlier word passes
pub found-place : (p : ℕ → Bool) (zs : List ℕ) {z tried : ℕ} → search p 0 zs ≡ found z tried
    → (1 ≤ tried) × (tried ≤ length zs) × (get_or zs (tried - 1) 0 ≡ z) × ((j : ℕ) → j + 1 < tried → p (get_or zs j 0) ≡ false)
found-place p zs {z} {tried} e =
    let h = hit p zs 0 e in
    let k : length zs ≡ length h.before + suc (length h.after) = ap length h.split ∙ length-append h.before (_ ∷ h.after) in (
      omega (arith, h.place),
      omega (arith, h.place),
      rw h.split (get_or_at h.before z h.after 0 (tried - 1) (omega (arith, h.place))),
      λ j l. rw (h.split, get_or-append h.before (z ∷ h.after) 0 j (omega (arith, h.place))) (h.fails _ (get_or-in h.before j (omega (arith, h.place)))),
    )

-- ---- the search of several weights

-- z is the first word over n cells that passes, of the `count` weights from v on
pub record FirstHit (p : ℕ → Bool) (n v count z : ℕ) : Type 0 where
  pub cells : z < 2 ^ n
  pub low : v ≤ ones z
  pub high : ones z < v + count
  pub passes : p z ≡ true
  pub first : (u : ℕ) → u < 2 ^ n → v ≤ ones u → ones u < v + count → p u ≡ true → Before z u

module _ (p : ℕ → Bool) (n v count : ℕ) where
  -- what is found is the first hit
  pub found_first : {z tried : ℕ} → search p 0 (weights n v count) ≡ found z tried → FirstHit p n v count z
  found_first {z} e =
      let h = hit p (weights n v count) 0 e in
      let w = weights-of n v count z (subst (Memᴰ z) (sym h.split) (Memᴰ.append_right h.before (Memᴰ.head refl))) in
      record {
        cells = w.0;
        low = w.1;
        high = w.2;
        passes = h.passes;
        first = λ u a b c q.
            ⊎_elim (λ m. absurd (true≢false (sym q ∙ h.fails u m)))
            (λ m.
            ⊎_elim (λ i. inr (ap ones (sym i), omega arith))
            (ordered-after Before h.before z h.after (subst (Ordered Before) h.split (weights-ordered n v count)) u)
            (Memᴰ.cases_cons m))
            (Memᴰ.append_cases h.before (subst (Memᴰ u) h.split (weights-in n v count u a b c)));
      }

  -- where none is found, all were tried and none passes
  pub missed-none : {tried : ℕ} → search p 0 (weights n v count) ≡ missed tried
      → (tried ≡ length (weights n v count)) × ((u : ℕ) → u < 2 ^ n → v ≤ ones u → ones u < v + count → p u ≡ false)
  missed-none e =
      let h = miss p (weights n v count) 0 e in
      (omega (arith, h.place), λ u a b c. h.fails u (weights-in n v count u a b c))

  -- where a word passes, one is found
  pub hit-found : (u : ℕ) → u < 2 ^ n → v ≤ ones u → ones u < v + count → p u ≡ true
      → (z : ℕ) × (tried : ℕ) × (search p 0 (weights n v count) ≡ found z tried)
  hit-found u a b c q = go (search p 0 (weights n v count)) refl
    where
      go : (f : Search) → search p 0 (weights n v count) ≡ f → (z : ℕ) × (tried : ℕ) × (search p 0 (weights n v count) ≡ found z tried)
      go (found z tried) e = (z, tried, e)
      go (missed tried) e = absurd (true≢false (sym q ∙ (missed-none e).1 u a b c))
