-- The search over several weights, in the code's words: one weight after another, and some weights after others. For the proofs of `sweep` and of the stages. Assumes nothing.
use mathlib.Core.Path.{◌≡◌, refl, sym, ap, ◌∙◌, subst}
use mathlib.Core.Bool.{Bool, true, false, true≢false}
use mathlib.Core.List.{List, ◌++◌, append_assoc}
use Prim.Native.Nat.{ℕ, zero, suc, ◌+◌, ◌-◌, ◌^◌, ◌≤◌, ◌<◌}
use native.Mathlib.Numerals.{add-one}
use native.Mathlib.Omega.{arith}
use lib.ListN.{length, length-append}
use Rattle.std.proofs.Common.{Option, Some, None}
use Rattle.std.specs.Option.{is_some}
use Rattle.paper.specs.Words.{width}
use Rattle.paper.specs.Listing.{Search, found, missed, search, listed, weights}
use Rattle.listing.specs.declared.Found.{Found}
use Rattle.listing.specs.declared.sums.Hit.{Hit}
use Rattle.listing.specs.Searches.{searched}
use Rattle.listing.specs.Sums.{find}
use Rattle.listing.proofs.Find.{told, In, find-in, search-find}
use Rattle.listing.proofs.Searched.{or_else, search-append, missed-all}

-- ---- what a search of the code found

-- no word: all were tried
missed-of : (f : Found) → is_some f.z ≡ false → searched f ≡ missed f.tried
missed-of f = go f.z
  where
    go : (z : Option ℕ) → is_some z ≡ false → elim z [ Some x ↦ found x f.tried | None ↦ missed f.tried ] ≡ missed f.tried
    go (Some x) e = absurd (true≢false e)
    go None e = refl

module _ {s : Search} (f : Found) (next : ℕ → Search) (q : searched f ≡ s) where
  -- a word: nothing goes on from it
  stays : is_some f.z ≡ true → or_else s next ≡ searched f
  stays e = ap (λ (t : Search). or_else t next) (sym q) ∙ go f.z e
    where
      go : (z : Option ℕ) → is_some z ≡ true
          → or_else (elim z [ Some x ↦ found x f.tried | None ↦ missed f.tried ]) next ≡ elim z [ Some x ↦ found x f.tried | None ↦ missed f.tried ]
      go (Some x) e = refl
      go None e = absurd (true≢false (sym e))

  -- no word: it goes on from the number tried
  goes_on : is_some f.z ≡ false → or_else s next ≡ next f.tried
  goes_on e = ap (λ (t : Search). or_else t next) (sym q ∙ missed-of f e)

-- ---- one weight after another

weights-more : (n v end : ℕ) → v < end → weights n v (end - v) ≡ listed n v ++ weights n (v + 1) (end - (v + 1))
unfolding weights
weights-more n v end h =
    let e : end - v ≡ suc (end - (v + 1)) = omega arith in
    ap (weights n v) e ∙ ap (λ (w : ℕ). listed n v ++ weights n w (end - (v + 1))) (sym (add-one v))

-- there is room for the words of a weight more
pub count-more : (n v end : ℕ) → v < end → length (weights n v (end - v)) ≡ length (listed n v) + length (weights n (v + 1) (end - (v + 1)))
count-more n v end h = ap length (weights-more n v end h) ∙ length-append (listed n v) (weights n (v + 1) (end - (v + 1)))

-- a place is at most the number of words
pub place-le : (p : ℕ → Bool) (n v : ℕ) {hit : Hit} → find p (listed n v) ≡ Some hit → hit.place ≤ length (listed n v)
place-le p n v {hit} e = let i : In (listed n v) (Some hit) = subst (In (listed n v)) e (find-in p (listed n v)) in i.1

module _ (p : ℕ → Bool) (t n v end : ℕ) where
  -- no weight is left
  pub sweep-end : end ≤ v → search p t (weights n v (end - v)) ≡ missed t
  unfolding weights search
  sweep-end h = let e : end - v ≡ 0 = omega arith in ap (λ (k : ℕ). search p t (weights n v k)) e

  -- the code's search of one weight, and then of the rest
  sweep-step : {s : Option Hit} → v < end → find p (listed n v) ≡ s
      → search p t (weights n v (end - v)) ≡ or_else (told t (length (listed n v)) s) (λ u. search p u (weights n (v + 1) (end - (v + 1))))
  sweep-step h f =
      ap (search p t) (weights-more n v end h) ∙ search-append p (listed n v) (weights n (v + 1) (end - (v + 1))) t
      ∙ ap (λ (r : Search). or_else r (λ u. search p u (weights n (v + 1) (end - (v + 1))))) (search-find p t (listed n v) ∙ ap (told t (length (listed n v))) f)

  -- found at weight v
  pub sweep-hit : {hit : Hit} → v < end → find p (listed n v) ≡ Some hit → search p t (weights n v (end - v)) ≡ found hit.z (t + hit.place)
  sweep-hit h f = sweep-step h f

  -- not found there: the search goes on at the next weight, all words of this one tried
  pub sweep-more : {w : ℕ} → v < end → find p (listed n v) ≡ None → w ≡ length (listed n v)
      → search p t (weights n v (end - v)) ≡ search p (t + w) (weights n (v + 1) (end - (v + 1)))
  sweep-more h f g = sweep-step h f ∙ ap (λ (k : ℕ). search p (t + k) (weights n (v + 1) (end - (v + 1)))) (sym g)

-- ---- the weights below m, and from m on

weights-append : (n v j k : ℕ) → weights n v (j + k) ≡ weights n v j ++ weights n (v + j) k
unfolding weights
weights-append n v zero k =
    let a : 0 + k ≡ k = omega arith in
    let b : v ≡ v + 0 = omega arith in
    ap (weights n v) a ∙ ap (λ (w : ℕ). weights n w k) b
weights-append n v (suc j) k =
    let a : suc j + k ≡ suc (j + k) = omega arith in
    let b : suc v + j ≡ v + suc j = omega arith in
    ap (weights n v) a ∙ ap (λ (l : List ℕ). listed n v ++ l) (weights-append n (suc v) j k ∙ ap (λ (w : ℕ). weights n (suc v) j ++ weights n w k) b)
    ∙ sym (append_assoc (listed n v) (weights n (suc v) j) (weights n (v + suc j) k))

module _ (n v m end : ℕ) (l : v ≤ m) (g : m ≤ end) where
  split_at : weights n v (end - v) ≡ weights n v (m - v) ++ weights n m (end - m)
  split_at =
      let a : end - v ≡ (m - v) + (end - m) = omega arith in
      let b : v + (m - v) ≡ m = omega arith in
      ap (weights n v) a ∙ weights-append n v (m - v) (end - m) ∙ ap (λ (w : ℕ). weights n v (m - v) ++ weights n w (end - m)) b

  split-count : length (weights n v (end - v)) ≡ length (weights n v (m - v)) + length (weights n m (end - m))
  split-count = ap length split_at ∙ length-append (weights n v (m - v)) (weights n m (end - m))

  -- the first weights leave room for their count
  pub split-room : (t : ℕ) → t + length (weights n v (end - v)) < 2 ^ width → t + length (weights n v (m - v)) < 2 ^ width
  split-room t h = omega (arith, split-count)

  module _ (p : ℕ → Bool) (t : ℕ) (f : Found) (q : searched f ≡ search p t (weights n v (m - v))) where
    split-search : search p t (weights n v (end - v)) ≡ or_else (search p t (weights n v (m - v))) (λ u. search p u (weights n m (end - m)))
    split-search = ap (search p t) split_at ∙ search-append p (weights n v (m - v)) (weights n m (end - m)) t

    -- found below m
    pub split-hit : is_some f.z ≡ true → searched f ≡ search p t (weights n v (end - v))
    split-hit e = sym (split-search ∙ stays f _ q e)

    -- no weight is left
    pub split_none : m ≡ end → searched f ≡ search p t (weights n v (end - v))
    split_none e = q ∙ ap (λ (k : ℕ). search p t (weights n v (k - v))) e

    -- not found there: the search goes on from m, and there is room
    pub split-more : is_some f.z ≡ false → search p t (weights n v (end - v)) ≡ search p f.tried (weights n m (end - m))
    split-more e = split-search ∙ goes_on f _ q e

    pub split_rest : is_some f.z ≡ false → t + length (weights n v (end - v)) < 2 ^ width → f.tried + length (weights n m (end - m)) < 2 ^ width
    split_rest e h = omega (arith, split-count, missed-all p (weights n v (m - v)) t (sym q ∙ missed-of f e))
