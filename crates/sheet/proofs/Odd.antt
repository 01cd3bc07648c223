-- The rows with which a word has product 1: one row after the other, and those before and behind a row.
-- For `has_odd` and `is_off`, which go over rows with no branch for each. Assumes nothing.
use mathlib.Core.Path.{◌≡◌, refl, sym, ap, ap₂, ◌∙◌}
use mathlib.Core.Bool.{Bool, true, false, cond, not, ◌||◌}
use mathlib.Core.List.{List}
use mathlib.Core.Logic.{◌⊎◌, ⊎_elim}
use Prim.Native.Nat.{ℕ, zero, suc, ◌+◌, ◌-◌, ◌≤◌, ◌<◌}
use native.Mathlib.Omega.{arith}
use native.Mathlib.Numerals.{add-one}
use lib.Bits.{bit_or}
use lib.Dec.{eqb}
use lib.ListN.{length, get_or, take, drop}
use lib.Seq.{get_or-take}
use Rattle.paper.specs.First.{First, nowhere, at, or_at, first, is_somewhere, any}
use Rattle.paper.specs.Words.{product}
use Rattle.paper.specs.Sheet.{wanted}
use Rattle.words.proofs.Products.{product-cases}
use Rattle.words.proofs.Firsts.{first-same}
use Rattle.sheet.proofs.Verdicts.{part_length, part_at, own-wanted, no-wanted, zero-wanted}

-- whether x has product 1 with row j
abbrev odd : ℕ → List ℕ → ℕ → Bool
odd x rows j = not (eqb (product x (get_or rows j 0)) 0)

-- ---- whether one of the numbers below n passes a test

any-suc : (p : ℕ → Bool) (n : ℕ) → any (n + 1) p ≡ (any n p || p n)
unfolding first
any-suc p n = rw add-one (go (first n p) (p n))
  where
    go : (f : First) (b : Bool) → is_somewhere (or_at f n b) ≡ (is_somewhere f || b)
    go (at j) b = refl
    go nowhere true = refl
    go nowhere false = refl

-- below i, or among the m numbers from i on
any-parts : (p : ℕ → Bool) (i m : ℕ) → any (i + m) p ≡ (any i p || any m (λ j. p (i + j)))
unfolding first
any-parts p i zero = let e : i + 0 ≡ i = omega arith in rw e (last (any i p))
  where
    last : (b : Bool) → b ≡ (b || false)
    last true = refl
    last false = refl
any-parts p i (suc m) =
    let e : i + suc m ≡ i + m + 1 = omega arith in
    let f : suc m ≡ m + 1 = omega arith in
    rw e (any-suc p (i + m) ∙ ap (λ (b : Bool). b || p (i + m)) (any-parts p i m) ∙ joined (any i p) _ _
    ∙ ap (λ (b : Bool). any i p || b) (sym (any-suc (λ j. p (i + j)) m) ∙ ap (λ (k : ℕ). any k (λ j. p (i + j))) (sym f)))
  where
    joined : (b c d : Bool) → ((b || c) || d) ≡ (b || (c || d))
    joined true c d = refl
    joined false c d = refl

-- ---- one row after the other

-- the word is 1 if there is one among the rows passed, else 0: the next product is joined to it
pub odd-next : (x : ℕ) (rows : List ℕ) (i : ℕ) → bit_or (cond (any i (odd x rows)) 1 0) (product x (get_or rows i 0)) ≡ cond (any (i + 1) (odd x rows)) 1 0
odd-next x rows i =
    sym (ap (λ (b : Bool). cond b 1 0) (any-suc (odd x rows) i) ∙ ⊎_elim (even (any i (odd x rows)) _) (uneven (any i (odd x rows)) _) (product-cases x (get_or rows i 0)))
  where
    even : (b : Bool) (y : ℕ) → y ≡ 0 → cond (b || not (eqb y 0)) 1 0 ≡ bit_or (cond b 1 0) y
    even true y e = rw e refl
    even false y e = rw e refl

    uneven : (b : Bool) (y : ℕ) → y ≡ 1 → cond (b || not (eqb y 0)) 1 0 ≡ bit_or (cond b 1 0) y
    uneven true y e = rw e refl
    uneven false y e = rw e refl

-- ---- a row x with number i, and the others

module _ (own i x : ℕ) (others : List ℕ) where
  -- x has another product than the one wanted with row j of the others
  abbrev breaks : ℕ → Bool
  breaks j = not (eqb (product x (get_or others j 0)) (wanted own i j))

  -- with rows with which 0 is wanted
  among : (number : ℕ → ℕ) (rows : List ℕ) (count : ℕ) → length rows ≡ count → ((j : ℕ) → j < count → get_or rows j 0 ≡ get_or others (number j) 0)
      → ((j : ℕ) → j < count → wanted own i (number j) ≡ 0) → any (length rows) (odd x rows) ≡ any count (λ j. breaks (number j))
  among number rows count e same none =
      ap (λ (m : ℕ). any m (odd x rows)) e
      ∙ ap is_somewhere (first-same _ _ count (λ j l. ap₂ (λ (y w : ℕ). not (eqb (product x y) w)) (same j l) (sym (none j l))))

  -- none of them has the number i, or own is 0: 0 is wanted with them all
  pub off-all : (length others ≤ i) ⊎ ((i < length others) × (own ≡ 0)) → any (length others) (odd x others) ≡ any (length others) breaks
  off-all h =
      among (λ j. j) others (length others) refl (λ j l. refl)
      (λ j l. ⊎_elim (λ m. no-wanted own i j (λ e. omega arith)) (λ e. ap (λ (o : ℕ). wanted o i j) e.1 ∙ zero-wanted i j) h)

  -- those before the one with the number i, that one, and those behind it
  pub off-parts : {before behind : Bool} {y : ℕ} → i < length others
      → before ≡ any (length (take i others)) (odd x (take i others))
      → y ≡ product x (get_or others i 0)
      → behind ≡ any (length (take (length others - (i + 1)) (drop (i + 1) others))) (odd x (take (length others - (i + 1)) (drop (i + 1) others)))
      → ((before || not (eqb y own)) || behind) ≡ any (length others) breaks
  off-parts h a b c =
      let m = length others - (i + 1) in
      let inside : i + 1 + m ≤ length others = omega arith in
      let e : length others ≡ i + 1 + m = omega arith in
      let p = a ∙ among (λ j. j) (take i others) i (part_length others 0 i (omega arith)) (λ j l. get_or-take i others j 0 l) (λ j l. no-wanted own i j (λ q. omega arith)) in
      let w : not (eqb _ own) ≡ breaks i = ap₂ (λ (u v : ℕ). not (eqb u v)) b (sym (own-wanted own i)) in
      let r = c ∙ among (λ j. i + 1 + j) (take m (drop (i + 1) others)) m (part_length others (i + 1) m inside) (part_at others (i + 1) m inside) (λ j l. no-wanted own i (i + 1 + j) (λ q. omega arith)) in
      ap₂ ◌||◌ (ap₂ ◌||◌ p w) r ∙ ap (λ (b : Bool). b || any m (λ j. breaks (i + 1 + j))) (sym (any-suc breaks i))
      ∙ sym (any-parts breaks (i + 1) m) ∙ ap (λ (k : ℕ). any k breaks) (sym e)
