-- Rows by their numbers, rows under a function, the same rows, and a room that is filled row by row.
-- For the parts of a sheet and the tables. Assumes nothing.
use mathlib.Core.Path.{◌≡◌, refl, sym, ap, ◌∙◌}
use mathlib.Core.Bool.{true, not}
use mathlib.Core.List.{List, map}
use Prim.Native.Nat.{ℕ, zero, suc, ◌+◌, ◌≤◌, ◌<◌}
use native.Mathlib.Numerals.{add-one}
use native.Mathlib.Omega.{arith}
use borrow.Author.Tests.{eq-eqb, eqb-true, not-true, not-false}
use lib.Dec.{eqb}
use lib.ListN
use lib.ListN.{length, get_or, take, set}
use lib.Seq.{take_all, take-suc, take-suc-set, ext_get_or}
use Rattle.paper.specs.Tables.{each, alike}
use Rattle.words.proofs.Firsts.{any-never, any-all}

-- ---- rows by their numbers

pub length-each : (m : ℕ) (f : ℕ → ℕ) → length (each m f) ≡ m
unfolding each
length-each zero f = refl
length-each (suc m) f = ap suc (length-each m (λ i. f (suc i)))

pub get_or-each : (m : ℕ) (f : ℕ → ℕ) (i : ℕ) → i < m → get_or (each m f) i 0 ≡ f i
unfolding each
get_or-each zero f i h = absurd (omega arith)
get_or-each (suc m) f zero h = refl
get_or-each (suc m) f (suc i) h = get_or-each m (λ j. f (suc j)) i (omega arith)

-- the rows of a list, by their numbers
pub each_rows : (m : ℕ) (f : ℕ → ℕ) (rows : List ℕ) → length rows ≡ m → ((i : ℕ) → i < m → f i ≡ get_or rows i 0) → each m f ≡ rows
each_rows m f rows e h =
    ext_get_or 0 (each m f) rows (length-each m f ∙ sym e)
    (λ i l. let q : i < m = omega (arith, length-each m f) in get_or-each m f i q ∙ h i q)

pub each_same : (m : ℕ) (f g : ℕ → ℕ) → ((i : ℕ) → i < m → f i ≡ g i) → each m f ≡ each m g
each_same m f g h = each_rows m f (each m g) (length-each m g) (λ i l. h i l ∙ sym (get_or-each m g i l))

-- ---- rows under a function that leaves 0 as it is

pub get_or-map : (f : ℕ → ℕ) → f 0 ≡ 0 → (rows : List ℕ) (i : ℕ) → get_or (map f rows) i 0 ≡ f (get_or rows i 0)
get_or-map f e rows i = ap (get_or (map f rows) i) (sym e) ∙ ListN.get_or-map f rows i 0

-- ---- the same rows

pub alike_same : {xs ys : List ℕ} → xs ≡ ys → alike xs ys ≡ true
alike_same {xs} {ys} e = ap not (any-never _ (length xs) (λ i l. ap not (eq-eqb _ _ (ap (λ (rows : List ℕ). get_or rows i 0) e))))

pub alike-rows : (xs ys : List ℕ) → length xs ≡ length ys → alike xs ys ≡ true → xs ≡ ys
alike-rows xs ys e h =
    ext_get_or 0 xs ys e (λ i l. eqb-true _ _ (not-false _ (any-all (λ j. not (eqb (get_or xs j 0) (get_or ys j 0))) (length xs) i (not-true _ h) l)))

-- ---- a room that holds the first i of the new rows

module _ (room new : List ℕ) (i : ℕ) (so_far : take i room ≡ take i new) where
  pub fill-next : (v : ℕ) → v ≡ get_or new i 0 → i < length room → i < length new → take (i + 1) (set room i v) ≡ take (i + 1) new
  fill-next v e h l = rw (add-one i, take-suc-set room i v h, take-suc new i 0 l, so_far, e)

  pub fill_end : length room ≤ i → length new ≤ i → room ≡ new
  fill_end h l = sym (take_all i room h) ∙ so_far ∙ take_all i new l
