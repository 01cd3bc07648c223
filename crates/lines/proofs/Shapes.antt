-- Shapes as they are read, letter by letter, and the numbers that fit them.
-- `fill` cites the numbers, one token after the other; then comes where each number stands (`fill-stands`), and what the numbers of a record are (`records-fit`).
use mathlib.Core.Path.{◌≡◌, refl, sym, ap, ap₂, ◌∙◌, subst}
use mathlib.Core.Bool.{Bool, true, false, cond}
use Rattle.std.specs.Prelude.{Option, Some, None, is_some, slice_get}
use Rattle.std.proofs.lemmas.Option.{none-some, same_Some}
use mathlib.Core.List.{List, [], ◌∷◌, ◌++◌, append_assoc}
use Prim.Native.Nat.{ℕ, zero, suc, ◌+◌, ◌-◌, ◌*◌, ◌%◌, ◌^◌, ◌≤◌, ◌<◌}
use native.Mathlib.Nat.{add-zero, zero-add}
use native.Mathlib.Numerals.{add-one, unary_clauses}
use native.Mathlib.Decide.{dec_lt, ℕ_discrete}
use native.Mathlib.Omega.{arith}
use lib.Dec.{eqb}
use lib.ListN.{length, get_or, take, drop, set, length-append, length-drop, drop_of_length-le}
use lib.Seq.{drop-drop, get_or-drop, take-suc-set, drop-cons}
use borrow.Author.Tests.{eq-eqb, ne_eqb}
use Rattle.text.specs.Numerals.{numeral}
use Rattle.text.proofs.Numerals.{numeral-most}
use Rattle.lines.specs.Shapes.{most_of, items_of, next_of, item_of, items, unrolled, joined, before, fill, stored, filled, Fits, Records, Stands}

-- ---- the letters that are to come

length-items : (wide : Bool) (left : ℕ) → length (items wide left) ≡ left
length-items wide zero = refl
length-items wide (suc left) = ap suc (length-items wide left)

-- the items that are to come, and the letters
pub unread-length : (wide : Bool) (left at : ℕ) (shape : List ℕ) → length (items wide left ++ drop at shape) ≡ left + (length shape - at)
unread-length wide left at shape =
    length-append (items wide left) (drop at shape) ∙ ap₂ (λ (a b : ℕ). a + b) (length-items wide left) (length-drop at shape)

module _ (wide : Bool) (left at : ℕ) (shape : List ℕ) where
  -- while an item is to come the shape is not read
  pub read-item : (left ≡ 0 → ⊥) → eqb left 0 ≡ eqb (length (items wide left ++ drop at shape)) 0
  read-item n =
      let more : length (items wide left ++ drop at shape) ≡ 0 → ⊥ = λ e. n (omega (arith, unread-length wide left at shape)) in
      ne_eqb left 0 n ∙ sym (ne_eqb (length (items wide left ++ drop at shape)) 0 more)

  -- with no item to come it is read at its last letter
  pub read-shape : left ≡ 0 → at ≤ length shape → eqb at (length shape) ≡ eqb (length (items wide left ++ drop at shape)) 0
  read-shape h k = go (ℕ_discrete at (length shape))
    where
      left_over : length (items wide left ++ drop at shape) ≡ left + (length shape - at)
      left_over = unread-length wide left at shape

      go : Dec (at ≡ length shape) → eqb at (length shape) ≡ eqb (length (items wide left ++ drop at shape)) 0
      go (yes e) = eq-eqb at (length shape) e ∙ sym (eq-eqb (length (items wide left ++ drop at shape)) 0 (omega (arith, left_over)))
      go (no n) =
          ne_eqb at (length shape) n ∙ sym (ne_eqb (length (items wide left ++ drop at shape)) 0 (λ e. n (omega (arith, left_over))))

-- the next letter is that of an item
pub letter-item : (wide : Bool) (left : ℕ) (rest : List ℕ) → 0 < left → get_or (items wide left ++ rest) 0 0 ≡ item_of wide left
letter-item wide zero rest h = absurd (omega arith)
letter-item wide (suc n) rest h = refl

-- or the next one of the shape
pub letter-shape : (wide : Bool) (left at : ℕ) (shape : List ℕ) → left ≡ 0 → get_or (items wide left ++ drop at shape) 0 0 ≡ get_or shape at 0
letter-shape wide zero at shape h = get_or-drop at shape 0 0 ∙ ap (λ (i : ℕ). get_or shape i 0) (add-zero at)
letter-shape wide (suc n) at shape h = absurd (omega arith)

-- no items follow an item
item-bare : (wide : Bool) (left x : ℕ) → unrolled (item_of wide left) x ≡ []
item-bare true left x = refl
item-bare false left x = go (eqb (left % 3) 1)
  where
    go : (b : Bool) → unrolled (cond b 98 110) x ≡ []
    go true = refl
    go false = refl

-- behind an item there is one item less
pub passed-item : (wide : Bool) (left : ℕ) (rest : List ℕ) (x : ℕ) → 0 < left
    → items wide (left - 1) ++ rest ≡ unrolled (get_or (items wide left ++ rest) 0 0) x ++ drop 1 (items wide left ++ rest)
passed-item wide zero rest x h = absurd (omega arith)
passed-item wide (suc n) rest x h =
    let e : suc n - 1 ≡ n = omega arith in
    ap (λ (k : ℕ). items wide k ++ rest) e ∙ sym (ap (λ (l : List ℕ). l ++ (items wide n ++ rest)) (item-bare wide (suc n) x))

-- behind a letter come its items
pub passed-letter : (wide : Bool) (left at : ℕ) (shape : List ℕ) (x : ℕ) → left ≡ 0
    → unrolled (get_or shape at 0) x ++ drop (at + 1) shape
    ≡ unrolled (get_or (items wide left ++ drop at shape) 0 0) x ++ drop 1 (items wide left ++ drop at shape)
passed-letter wide zero at shape x h =
    ap₂ (λ (l : ℕ) (rest : List ℕ). unrolled l x ++ rest) (sym (letter-shape wide zero at shape refl)) (sym (drop-drop 1 at shape))
passed-letter wide (suc n) at shape x h = absurd (omega arith)

-- ---- the numbers, one token after the other

-- the numbers that were read, and those that are to come
abbrev pub after : List ℕ → Option (List ℕ) → Option (List ℕ)
after xs None = None
after xs (Some ys) = Some (xs ++ ys)

-- nothing was read before
pub after_nothing : (ns : Option (List ℕ)) → after [] ns ≡ ns
after_nothing None = refl
after_nothing (Some ys) = refl

after_one : (xs : List ℕ) (x : ℕ) (ns : Option (List ℕ)) → after xs (joined x ns) ≡ after (xs ++ (x ∷ [])) ns
after_one xs x None = refl
after_one xs x (Some ys) = ap Some (sym (append_assoc xs (x ∷ []) ys))

-- no letter is left for a token
pub fill-over : (u t : List ℕ) (ts : List (List ℕ)) → slice_get u 0 ≡ None → fill u (t ∷ ts) ≡ None
unfolding fill
fill-over [] t ts e = refl
fill-over (l ∷ u) t ts e = absurd (none-some l (sym e))

-- a token for the next letter
pub fill-next : (u t : List ℕ) (ts : List (List ℕ)) (letter : ℕ) → slice_get u 0 ≡ Some letter
    → fill u (t ∷ ts) ≡ before (numeral (most_of letter) t) (λ x. fill (unrolled letter x ++ drop 1 u) ts)
unfolding fill
fill-next [] t ts letter e = absurd (none-some letter e)
fill-next (l ∷ u) t ts letter e =
    ap (λ (k : ℕ). before (numeral (most_of k) t) (λ x. fill (unrolled k x ++ u) ts)) (same_Some l letter e)

-- letters that are left without a token
pub fill-short : (u : List ℕ) → is_some (slice_get u 0) ≡ true → fill u [] ≡ None
unfolding fill
fill-short [] e = let z : ◌≡◌ {A = ℕ} 0 1 = cc in absurd (omega arith)
fill-short (l ∷ u) e = refl

-- no letter and no token is left
pub fill_done : (u : List ℕ) → is_some (slice_get u 0) ≡ false → fill u [] ≡ Some []
unfolding fill
fill_done [] e = refl
fill_done (l ∷ u) e = let z : ◌≡◌ {A = ℕ} 0 1 = cc in absurd (omega arith)

-- what a turn of the loop over the tokens finds, `xs` having been read before, for the token t and those behind it
module _ (whole : Option (List ℕ)) (xs u t : List ℕ) (ts : List (List ℕ)) (inv : whole ≡ after xs (fill u (t ∷ ts))) where
  -- a token too many
  pub turn-over : slice_get u 0 ≡ None → whole ≡ None
  turn-over h = inv ∙ ap (after xs) (fill-over u t ts h)

  module _ (letter : ℕ) (next : slice_get u 0 ≡ Some letter) where
    -- a token that its place does not hold
    pub turn-none : numeral (most_of letter) t ≡ None → whole ≡ None
    turn-none e =
        inv ∙ ap (after xs) (fill-next u t ts letter next ∙ ap (λ (m : Option ℕ). before m (λ x. fill (unrolled letter x ++ drop 1 u) ts)) e)

    -- a number, and what is left behind it
    pub turn-next : (x : ℕ) (u' : List ℕ) → numeral (most_of letter) t ≡ Some x → u' ≡ unrolled letter x ++ drop 1 u
        → whole ≡ after (xs ++ (x ∷ [])) (fill u' ts)
    turn-next x u' e p =
        inv ∙ ap (after xs) (fill-next u t ts letter next
        ∙ ap (λ (m : Option ℕ). before m (λ x. fill (unrolled letter x ++ drop 1 u) ts)) e
        ∙ ap (λ (s : List ℕ). joined x (fill s ts)) (sym p))
        ∙ after_one xs x (fill u' ts)

filled-over : (i : ℕ) (room u t : List ℕ) (ts : List (List ℕ)) → slice_get u 0 ≡ None → filled i room u (t ∷ ts) ≡ room
unfolding filled
filled-over i room [] t ts e = refl
filled-over i room (l ∷ u) t ts e = absurd (none-some l (sym e))

filled_next : (i : ℕ) (room u t : List ℕ) (ts : List (List ℕ)) (letter : ℕ) → slice_get u 0 ≡ Some letter
    → filled i room u (t ∷ ts)
    ≡ stored (numeral (most_of letter) t) i room (λ x next. filled (i + 1) next (unrolled letter x ++ drop 1 u) ts)
unfolding filled
filled_next i room [] t ts letter e = absurd (none-some letter e)
filled_next i room (l ∷ u) t ts letter e =
    ap (λ (k : ℕ). stored (numeral (most_of k) t) i room (λ x next. filled (i + 1) next (unrolled k x ++ u) ts)) (same_Some l letter e)

-- what a turn leaves in the room, the numbers from place i on being to come
module _ (whole : List ℕ) (i : ℕ) (room u t : List ℕ) (ts : List (List ℕ)) (inv : whole ≡ filled i room u (t ∷ ts)) where
  -- a token too many leaves the room as it is
  pub room-over : slice_get u 0 ≡ None → whole ≡ room
  room-over h = inv ∙ filled-over i room u t ts h

  module _ (letter : ℕ) (next : slice_get u 0 ≡ Some letter) where
    -- so does one that its place does not hold
    pub room-none : numeral (most_of letter) t ≡ None → whole ≡ room
    room-none e =
        inv ∙ filled_next i room u t ts letter next
        ∙ ap (λ (m : Option ℕ). stored m i room (λ x next. filled (i + 1) next (unrolled letter x ++ drop 1 u) ts)) e

    -- a number is stored, and the next ones behind it
    pub room-next : (x : ℕ) (u' : List ℕ) → numeral (most_of letter) t ≡ Some x → u' ≡ unrolled letter x ++ drop 1 u
        → whole ≡ filled (i + 1) (set room i x) u' ts
    room-next x u' e p =
        inv ∙ filled_next i room u t ts letter next
        ∙ ap (λ (m : Option ℕ). stored m i room (λ x next. filled (i + 1) next (unrolled letter x ++ drop 1 u) ts)) e
        ∙ ap (λ (s : List ℕ). filled (i + 1) (set room i x) s ts) (sym p)

-- no token is left
pub filled-end : (i : ℕ) (room u : List ℕ) → filled i room u [] ≡ room
unfolding filled
filled-end i room [] = refl
filled-end i room (l ∷ u) = refl

-- the numbers with x stored behind them
pub stores : (numbers : List ℕ) (count x : ℕ) → count < length numbers → take (count + 1) (set numbers count x) ≡ take count numbers ++ (x ∷ [])
stores numbers count x k = rw (add-one count) (take-suc-set numbers count x k)

-- ---- numbers that fit a shape stand where it has them

-- the same as `Stands`, from the first number on
abbrev Fitted : List ℕ → List ℕ → Type 0
Fitted [] ns = length ns ≡ 0
Fitted (letter ∷ shape) [] = ⊥
Fitted (letter ∷ shape) (x ∷ ns) =
    (x ≤ most_of letter) × (items_of letter x ≤ length ns) × Fits (eqb letter 76) (items_of letter x) 0 ns × Fitted shape (drop (items_of letter x) ns)

joined-some : (x : ℕ) (m : Option (List ℕ)) (ns : List ℕ) → joined x m ≡ Some ns → (rest : List ℕ) × (m ≡ Some rest) × (ns ≡ x ∷ rest)
joined-some x None ns e = let z : ◌≡◌ {A = ℕ} 0 1 = cc in absurd (omega arith)
joined-some x (Some rest) ns e = (rest, refl, (cc))

before-some : (n : Option ℕ) (f : ℕ → Option (List ℕ)) (ns : List ℕ) → before n f ≡ Some ns
    → (x : ℕ) × (n ≡ Some x) × (joined x (f x) ≡ Some ns)
before-some None f ns e = let z : ◌≡◌ {A = ℕ} 0 1 = cc in absurd (omega arith)
before-some (Some x) f ns e = (x, refl, e)

some-not : {x : List ℕ} → None ≡ Some x → ⊥
some-not e = let z : ◌≡◌ {A = ℕ} 0 1 = cc in omega arith

fits-none : (wide : Bool) (i : ℕ) (ns : List ℕ) → Fits wide 0 i ns
fits-none wide i ns j h = absurd (omega arith)

fits_one : (wide : Bool) (left x : ℕ) (ns : List ℕ) → x ≤ most_of (item_of wide (suc left)) → Fits wide left 0 ns → Fits wide (suc left) 0 (x ∷ ns)
fits_one wide left x ns h rest zero k = simp unary_clauses h
fits_one wide left x ns h rest (suc j) k = simp unary_clauses (simp unary_clauses at (rest j (omega arith)))

fits : (ts : List (List ℕ)) (k : ℕ) (wide : Bool) (shape ns : List ℕ) → fill (items wide k ++ shape) ts ≡ Some ns
    → (k ≤ length ns) × Fits wide k 0 ns × Fitted shape (drop k ns)
unfolding fill
fits [] zero wide [] ns e = let z : [] ≡ ns = cc in rw (← z) (omega arith, fits-none wide 0 [], refl)
fits [] zero wide (l ∷ shape) ns e = absurd (some-not e)
fits [] (suc k) wide shape ns e = absurd (some-not e)
fits (t ∷ ts) zero wide [] ns e = absurd (some-not e)
fits (t ∷ ts) zero wide (l ∷ shape) ns e =
    let b = before-some (numeral (most_of l) t) (λ x. fill (unrolled l x ++ shape) ts) ns e in
    let j = joined-some b.0 (fill (unrolled l b.0 ++ shape) ts) ns b.2 in
    let r = fits ts (items_of l b.0) (eqb l 76) shape j.0 j.1 in
    rw j.2 (omega arith, fits-none wide 0 (b.0 ∷ j.0), (numeral-most (most_of l) t b.0 b.1, r.0, r.1, r.2))
fits (t ∷ ts) (suc k) wide shape ns e =
    let letter = item_of wide (suc k) in
    let b = before-some (numeral (most_of letter) t) (λ x. fill (unrolled letter x ++ (items wide k ++ shape)) ts) ns e in
    let j = joined-some b.0 (fill (unrolled letter b.0 ++ (items wide k ++ shape)) ts) ns b.2 in
    let trimmed = ap (λ (l : List ℕ). fill (l ++ (items wide k ++ shape)) ts) (item-bare wide (suc k) b.0) in
    let r = fits ts k wide shape j.0 (sym trimmed ∙ j.1) in
    rw j.2 (omega arith, fits_one wide k b.0 j.0 (numeral-most (most_of letter) t b.0 b.1) r.1, r.2)

-- items stand where they do among all the numbers
fits-at : (wide : Bool) (left i : ℕ) (ns : List ℕ) → Fits wide left 0 (drop i ns) → Fits wide left i ns
fits-at wide left i ns f j h = subst (λ (x : ℕ). x ≤ most_of (item_of wide (left - j))) (ap (λ (k : ℕ). get_or (drop i ns) k 0) (zero-add j) ∙ get_or-drop i ns j 0) (f j h)

-- the place behind a number and its items
next-of : (letter i x : ℕ) → i + 1 + items_of letter x ≡ next_of letter i x
next-of letter i x = go (eqb letter 76) (eqb letter 82)
  where
    go : (l r : Bool) → i + 1 + cond l x (cond r (3 * x) 0) ≡ cond l (i + 1 + x) (cond r (i + 1 + 3 * x) (i + 1))
    go true r = refl
    go false true = refl
    go false false = add-zero (i + 1)

places : (shape : List ℕ) (i : ℕ) (ns : List ℕ) → i ≤ length ns → Fitted shape (drop i ns) → Stands shape i ns
places [] i ns h f = omega (arith, length-drop i ns)
places (l ∷ shape) i ns h f = go (dec_lt i (length ns)) (places shape (next_of l i (get_or ns i 0)) ns)
  where
    x : ℕ
    x = get_or ns i 0

    go : Dec (i < length ns) → (next_of l i x ≤ length ns → Fitted shape (drop (next_of l i x) ns) → Stands shape (next_of l i x) ns)
        → Stands (l ∷ shape) i ns
    go (yes k) rest =
        let g : Fitted (l ∷ shape) (x ∷ drop (suc i) ns) = subst (Fitted (l ∷ shape)) (drop-cons ns i 0 k) f in
        let far : next_of l i x ≤ length ns = omega (arith, length-drop (suc i) ns, g.1, next-of l i x) in
        let next : drop (suc i) ns ≡ drop (i + 1) ns = ap (λ (n : ℕ). drop n ns) (sym (add-one i)) in
        let e : drop (items_of l x) (drop (suc i) ns) ≡ drop (next_of l i x) ns =
        ap (drop (items_of l x)) next ∙ drop-drop (items_of l x) (i + 1) ns ∙ ap (λ (n : ℕ). drop n ns) (next-of l i x) in
        let held = fits-at (eqb l 76) (items_of l x) (i + 1) ns (subst (Fits (eqb l 76) (items_of l x) 0) next g.2) in
        (k, g.0, far, held, rest far (subst (Fitted shape) e g.3))
    go (no n) rest = absurd (subst (Fitted (l ∷ shape)) (let far : length ns ≤ i = omega (arith, n) in drop_of_length-le ns far) f)

-- the numbers of a line stand where its shape has them
pub fill-stands : (shape : List ℕ) (ts : List (List ℕ)) (ns : List ℕ) → fill shape ts ≡ Some ns → Stands shape 0 ns
fill-stands shape ts ns e = places shape 0 ns (omega arith) (fits ts 0 true shape ns e).2

-- ---- the numbers of records

-- no number of a record is one of more than 32 bits
number-most : (left : ℕ) → most_of (item_of false left) ≤ 2 ^ 32 - 1
number-most left = go (eqb (left % 3) 1)
  where
    go : (b : Bool) → most_of (cond b 98 110) ≤ 2 ^ 32 - 1
    go true = omega arith
    go false = omega arith

-- its third is one of 8
level-most : (left : ℕ) → left % 3 ≡ 1 → most_of (item_of false left) ≡ 2 ^ 8 - 1
level-most left e = rw (eq-eqb (left % 3) 1 e)

at_item : (i a b : ℕ) (ns : List ℕ) → get_or ns (i + (a + b)) 0 ≡ get_or ns (i + a + b) 0
at_item i a b ns = ap (λ (k : ℕ). get_or ns k 0) (let e : i + (a + b) ≡ i + a + b = omega arith in e)

-- what the places of the items of records hold, record by record
pub records-fit : (count i : ℕ) (ns : List ℕ) → Fits false (3 * count) i ns → Records count i ns
records-fit count i ns f j h = (
  omega (arith, f (3 * j) (omega arith), number-most (3 * count - 3 * j)),
  omega (arith, f (3 * j + 1) (omega arith), number-most (3 * count - (3 * j + 1)), at_item i (3 * j) 1 ns),
  omega (arith, f (3 * j + 2) (omega arith), level-most (3 * count - (3 * j + 2)) (omega arith), at_item i (3 * j) 2 ns),
)
