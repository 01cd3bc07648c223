-- The first word of a list and its place, as the code finds them on the way back: for any test and any list.
-- For the laws of the search by sums. Assumes nothing.
use mathlib.Core.Path.{◌≡◌, refl, sym, ap, ap₂, ◌∙◌}
use mathlib.Core.Bool.{Bool, true, false}
use mathlib.Core.List.{List, [], ◌∷◌, ◌++◌, map, Memᴰ}
use Prim.Native.Nat.{ℕ, suc, ◌+◌, ◌≤◌}
use native.Mathlib.Omega.{arith}
use lib.ListN.{length}
use Rattle.paper.specs.Listing.{Search, found, missed, search}
use Rattle.std.proofs.Common.{Option, Some, None}
use Rattle.listing.specs.Sums.{here, moved, find}
use Rattle.listing.specs.declared.sums.Hit.{Hit}

-- what was found, or else the other
abbrev pub or_hit : Option Hit → Option Hit → Option Hit
or_hit (Some hit) s = Some hit
or_hit None s = s

-- a place in a list of n words that is searched after t others
abbrev pub told : ℕ → ℕ → Option Hit → Search
told t n (Some hit) = found hit.z (t + hit.place)
told t n None = missed (t + n)

moved-moved : (f : ℕ → ℕ) (a b : ℕ) (s : Option Hit) → moved (λ x. x) b (moved f a s) ≡ moved f (a + b) s
moved-moved f a b (Some hit) = ap (here (f hit.z)) (omega arith)
moved-moved f a b None = refl

moved_none : (s : Option Hit) → s ≡ moved (λ x. x) 0 s
moved_none (Some hit) = ap (here hit.z) (omega arith)
moved_none None = refl

pub find-append : (p : ℕ → Bool) (xs ys : List ℕ) → find p (xs ++ ys) ≡ or_hit (find p xs) (moved (λ x. x) (length xs) (find p ys))
unfolding find
find-append p [] ys = moved_none (find p ys)
find-append p (x ∷ xs) ys = go (p x) (find p xs) (find p (xs ++ ys)) (find p ys) (find-append p xs ys)
  where
    later : (a b : Option Hit) → moved (λ x. x) 1 (or_hit a (moved (λ x. x) (length xs) b)) ≡ or_hit (moved (λ x. x) 1 a) (moved (λ x. x) (suc (length xs)) b)
    later (Some hit) b = refl
    later None (Some hit) = ap (here hit.z) (omega arith)
    later None None = refl

    go : (t : Bool) (a w b : Option Hit) → w ≡ or_hit a (moved (λ x. x) (length xs) b)
        → elim t [ true ↦ here x 1 | false ↦ moved (λ x. x) 1 w ] ≡ or_hit (elim t [ true ↦ here x 1 | false ↦ moved (λ x. x) 1 a ]) (moved (λ x. x) (suc (length xs)) b)
    go true a w b e = refl
    go false a w b e = ap (moved (λ x. x) 1) e ∙ later a b

pub find-map : (p : ℕ → Bool) (f : ℕ → ℕ) (xs : List ℕ) → find p (map f xs) ≡ moved f 0 (find (λ z. p (f z)) xs)
unfolding find
find-map p f [] = refl
find-map p f (x ∷ xs) = go (p (f x)) (find (λ z. p (f z)) xs) (find p (map f xs)) (find-map p f xs)
  where
    later : (a : Option Hit) → moved (λ x. x) 1 (moved f 0 a) ≡ moved f 0 (moved (λ x. x) 1 a)
    later (Some hit) = ap (here (f hit.z)) (omega arith)
    later None = refl

    go : (t : Bool) (a w : Option Hit) → w ≡ moved f 0 a → elim t [ true ↦ here (f x) 1 | false ↦ moved (λ x. x) 1 w ] ≡ moved f 0 (elim t [ true ↦ here x 1 | false ↦ moved (λ x. x) 1 a ])
    go true a w e = refl
    go false a w e = ap (moved (λ x. x) 1) e ∙ later a

pub find-cong : {p q : ℕ → Bool} (xs : List ℕ) → ((z : ℕ) → Memᴰ z xs → p z ≡ q z) → find p xs ≡ find q xs
unfolding find
find-cong [] e = refl
find-cong (x ∷ xs) e =
    ap₂ (λ (t : Bool) (s : Option Hit). elim t [ true ↦ here x 1 | false ↦ moved (λ x. x) 1 s ]) (e x (Memᴰ.head refl)) (find-cong xs (λ z m. e z (Memᴰ.tail m)))

pub find_none : {p : ℕ → Bool} (xs : List ℕ) → ((z : ℕ) → Memᴰ z xs → p z ≡ false) → find p xs ≡ None
unfolding find
find_none [] e = refl
find_none (x ∷ xs) e =
    ap₂ (λ (t : Bool) (s : Option Hit). elim t [ true ↦ here x 1 | false ↦ moved (λ x. x) 1 s ]) (e x (Memᴰ.head refl)) (find_none xs (λ z m. e z (Memᴰ.tail m)))

-- what is found is in the list, and its place is
abbrev pub In : List ℕ → Option Hit → Type 0
In xs (Some hit) = Memᴰ hit.z xs × (hit.place ≤ length xs)
In xs None = Unit {0}

pub find-in : (p : ℕ → Bool) (xs : List ℕ) → In xs (find p xs)
unfolding find
find-in p [] = tt
find-in p (x ∷ xs) = go (p x) (find p xs) (find-in p xs)
  where
    go : (t : Bool) (s : Option Hit) → In xs s → In (x ∷ xs) (elim t [ true ↦ here x 1 | false ↦ moved (λ x. x) 1 s ])
    go true s m = (Memᴰ.head refl, omega arith)
    go false (Some hit) m = (Memᴰ.tail m.0, omega (arith, m.1))
    go false None m = tt

pub search-find : (p : ℕ → Bool) (t : ℕ) (xs : List ℕ) → search p t xs ≡ told t (length xs) (find p xs)
unfolding find search
search-find p t [] = ap missed (omega arith)
search-find p t (x ∷ xs) = go (p x) (find p xs) (search p (t + 1) xs) (search-find p (t + 1) xs)
  where
    later : (a : Option Hit) → told (t + 1) (length xs) a ≡ told t (suc (length xs)) (moved (λ x. x) 1 a)
    later (Some hit) = ap (found hit.z) (omega arith)
    later None = ap missed (omega arith)

    go : (b : Bool) (a : Option Hit) (w : Search) → w ≡ told (t + 1) (length xs) a → elim b [ true ↦ found x (t + 1) | false ↦ w ] ≡ told t (suc (length xs)) (elim b [ true ↦ here x 1 | false ↦ moved (λ x. x) 1 a ])
    go true a w e = refl
    go false a w e = e ∙ later a

-- one list after another, the second by another test of moved words
pub find-both : (p q : ℕ → Bool) (f : ℕ → ℕ) (xs ys : List ℕ) → ((z : ℕ) → Memᴰ z ys → p (f z) ≡ q z)
    → find p (xs ++ map f ys) ≡ or_hit (find p xs) (moved f (length xs) (find q ys))
find-both p q f xs ys e =
    find-append p xs (map f ys)
    ∙ ap (λ (s : Option Hit). or_hit (find p xs) (moved (λ x. x) (length xs) s)) (find-map p f ys ∙ ap (moved f 0) (find-cong ys e))
    ∙ ap (or_hit (find p xs)) (moved-moved f 0 (length xs) (find q ys) ∙ ap (λ (k : ℕ). moved f k (find q ys)) (omega arith))

-- tests that agree on the list find the same
pub search-cong : {p q : ℕ → Bool} (t : ℕ) (xs : List ℕ) → ((z : ℕ) → Memᴰ z xs → p z ≡ q z) → search p t xs ≡ search q t xs
search-cong {p} {q} t xs e = search-find p t xs ∙ ap (told t (length xs)) (find-cong xs e) ∙ sym (search-find q t xs)
