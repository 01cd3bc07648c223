-- One step of the search by sums of columns, in the code's words. For the proofs of `scan` and `seek`. Assumes nothing.
use mathlib.Core.Path.{◌≡◌, refl, sym, ap, ap₂, ◌∙◌, subst}
use mathlib.Core.Logic.{◌⊎◌, inl, inr}
use mathlib.Core.Bool.{Bool, true, false, true≢false, ◌&&◌, ◌||◌}
use mathlib.Core.List.{List}
use Prim.Native.Nat.{ℕ, zero, suc, ◌+◌, ◌-◌, ◌^◌, ◌≤◌, ◌<◌}
use native.Mathlib.Nat.{pow-suc, eq-or-lt_of_le}
use native.Mathlib.Numerals.{add-one}
use native.Mathlib.Omega.{arith}
use borrow.Author.Tests.{eqb-true, eqb-false, ltb-false}
use lib.Bits.{bit_and}
use lib.Dec.{eqb, ltb, leb}
use lib.ListN.{length, get_or}
use lib.Pow.{pow_mono}
use Rattle.paper.specs.Words.{width, sum, ◌⊕◌}
use Rattle.paper.specs.Listing.{listed}
use Rattle.words.proofs.Sums.{⊕-assoc, ⊕-zero-r, ⊕-zero-l, ⊕-zero-eq, and-⊕}
use Rattle.words.proofs.Rows.{sum-zero, sum_top}
use Rattle.marks.specs.Marks.{mark, Marked, Ready}
use Rattle.std.proofs.Common.{Option, Some, None}
use Rattle.std.specs.Bool.{then_some}
use Rattle.std.proofs.lemmas.Option.{none-some}
use Rattle.listing.specs.declared.sums.Hit.{Hit}
use Rattle.listing.specs.Sums.{here, moved, find, meets, fits}
use Rattle.listing.proofs.Find.{or_hit, find-both, find_none, find-in, In}
use Rattle.listing.proofs.Listed.{listed-zero, listed-none, listed_of, length-zero, length-step, weights-fit, weights-cons, weights-nil}

-- as many words of weight 1 as cells
length-one : (n : ℕ) → length (listed n 1) ≡ n
length-one zero = ap length (listed-none zero 1 (omega arith))
length-one (suc n) = omega (arith, length-step n zero, length-one n, length-zero n)

module _ (cols : List ℕ) (h o s : ℕ) where
  fits-above : (c z : ℕ) → z < 2 ^ c → fits cols h o s (z + 2 ^ c) ≡ fits cols h o (s ⊕ get_or cols c 0) z
  unfolding fits
  fits-above c z l = ap (meets h o) (ap (λ (x : ℕ). s ⊕ x) (sum_top cols c z l) ∙ sym (⊕-assoc s (get_or cols c 0) (sum cols z)))

  pub find-step : (c v : ℕ)
      → find (fits cols h o s) (listed (suc c) (suc v))
      ≡ or_hit (find (fits cols h o s) (listed c (suc v))) (moved (λ z. z + 2 ^ c) (length (listed c (suc v))) (find (fits cols h o (s ⊕ get_or cols c 0)) (listed c v)))
  unfolding listed
  find-step c v = find-both _ _ (λ z. z + 2 ^ c) (listed c (suc v)) (listed c v) (λ z m. fits-above c z (listed_of c v z m).0)

  -- ---- the words of weight 0

  zero-fits : fits cols h o s 0 ≡ meets h o s
  unfolding fits
  zero-fits = ap (λ (x : ℕ). meets h o (s ⊕ x)) (sum-zero cols) ∙ ap (meets h o) (⊕-zero-r s)

  pub find-zero : (c : ℕ) → find (fits cols h o s) (listed c 0) ≡ elim (meets h o s) [ true ↦ here 0 1 | false ↦ None ]
  unfolding find
  find-zero c = ap (find (fits cols h o s)) (listed-zero c) ∙ ap (λ (b : Bool). elim b [ true ↦ here 0 1 | false ↦ None ]) zero-fits

  -- ---- the words of weight 1, from the lowest cell up

  pub scan-start : find (fits cols h o s) (listed 0 1) ≡ None
  unfolding find
  scan-start = ap (find (fits cols h o s)) (listed-none 0 1 (omega arith))

module _ (cols : List ℕ) (h o s i : ℕ) (e : find (fits cols h o s) (listed i 1) ≡ None) where
  scan_step : find (fits cols h o s) (listed (i + 1) 1) ≡ moved (λ z. z + 2 ^ i) (length (listed i 1)) (elim (meets h o (s ⊕ get_or cols i 0)) [ true ↦ here 0 1 | false ↦ None ])
  scan_step =
      ap (λ (k : ℕ). find (fits cols h o s) (listed k 1)) (add-one i) ∙ find-step cols h o s i 0
      ∙ ap (λ (r : Option Hit). or_hit r (moved (λ z. z + 2 ^ i) (length (listed i 1)) (find (fits cols h o (s ⊕ get_or cols i 0)) (listed i 0)))) e
      ∙ ap (moved (λ z. z + 2 ^ i) (length (listed i 1))) (find-zero cols h o (s ⊕ get_or cols i 0) i)

  pub scan-more : meets h o (s ⊕ get_or cols i 0) ≡ false → find (fits cols h o s) (listed (i + 1) 1) ≡ None
  scan-more f = scan_step ∙ ap (λ (b : Bool). moved (λ z. z + 2 ^ i) (length (listed i 1)) (elim b [ true ↦ here 0 1 | false ↦ None ])) f

  scan-here : meets h o (s ⊕ get_or cols i 0) ≡ true → find (fits cols h o s) (listed (i + 1) 1) ≡ here (2 ^ i) (i + 1)
  scan-here f =
      scan_step ∙ ap (λ (b : Bool). moved (λ z. z + 2 ^ i) (length (listed i 1)) (elim b [ true ↦ here 0 1 | false ↦ None ])) f
      ∙ ap₂ here (omega arith) (omega (arith, length-one i))

-- what is found among the words over the lower cells is found over more
pub find-more : (cols : List ℕ) (h o s c n v : ℕ) {z u : ℕ} → c ≤ n → find (fits cols h o s) (listed c (suc v)) ≡ here z u → find (fits cols h o s) (listed n (suc v)) ≡ here z u
find-more cols h o s c zero v {z} {u} l e = ap (λ (k : ℕ). find (fits cols h o s) (listed k (suc v))) (omega arith) ∙ e
find-more cols h o s c (suc n) v {z} {u} l e = go (eq-or-lt_of_le l) (λ k. find-more cols h o s c n v k e)
  where
    go : (c ≡ suc n) ⊎ (c < suc n) → (c ≤ n → find (fits cols h o s) (listed n (suc v)) ≡ here z u) → find (fits cols h o s) (listed (suc n) (suc v)) ≡ here z u
    go (inl i) r = ap (λ (k : ℕ). find (fits cols h o s) (listed k (suc v))) (sym i) ∙ e
    go (inr i) r =
        find-step cols h o s n v
        ∙ ap (λ (w : Option Hit). or_hit w (moved (λ z. z + 2 ^ n) (length (listed n (suc v))) (find (fits cols h o (s ⊕ get_or cols n 0)) (listed n v)))) (r (omega arith))

pub scan-hit : (cols : List ℕ) (h o s i n : ℕ) {k : ℕ} → find (fits cols h o s) (listed i 1) ≡ None → i < n → meets h o (s ⊕ get_or cols i 0) ≡ true → k ≡ 2 ^ i
    → find (fits cols h o s) (listed n 1) ≡ here k (i + 1)
scan-hit cols h o s i n e l f g = find-more cols h o s (i + 1) n 0 (omega arith) (scan-here cols h o s i e f) ∙ ap (λ (x : ℕ). here x (i + 1)) (sym g)

pub scan-end : (cols : List ℕ) (h o s i n : ℕ) → i ≤ n → n ≤ i → find (fits cols h o s) (listed i 1) ≡ None → find (fits cols h o s) (listed n 1) ≡ None
scan-end cols h o s i n a b e = ap (λ (k : ℕ). find (fits cols h o s) (listed k 1)) (omega arith) ∙ e

-- ---- one step in the code's words: cells - 1 and v - 1

module _ (cols : List ℕ) (h o s : ℕ) where
  module _ (c v : ℕ) where
    -- no cell is left to choose: the sum itself is met, or not
    pub seek_zero : v ≡ 0 → then_some {T = Hit} (meets h o s) (record { z = 0; place = 1 }) ≡ find (fits cols h o s) (listed c v)
    seek_zero e = go (meets h o s) ∙ sym (ap (λ (w : ℕ). find (fits cols h o s) (listed c w)) e ∙ find-zero cols h o s c)
      where
        go : (b : Bool) → then_some {T = Hit} b (record { z = 0; place = 1 }) ≡ elim b [ true ↦ here 0 1 | false ↦ None ]
        go true = refl
        go false = refl

    pub seek-short : c < v → find (fits cols h o s) (listed c v) ≡ None
    unfolding find
    seek-short l = ap (find (fits cols h o s)) (listed-none c v l)

-- of a test that fails, both parts fail
neither : (a b : Bool) → (a || b) ≡ false → (a ≡ false) × (b ≡ false)
neither true b e = absurd (true≢false e)
neither false b e = (refl, e)

-- a sum that is not open: no word of weight v fits
module _ (t cols : List ℕ) (h o s n c v low : ℕ) where
  unmarked : v ≤ low → c ≤ n → Marked t cols h 0 n low → (mark t (bit_and h s) ≡ 1 → ⊥) → find (fits cols h o s) (listed c v) ≡ None
  unfolding fits
  unmarked l k m f =
      find_none (listed c v) (λ z i.
      let g = listed_of c v z i in
      go z (eqb (bit_and h (s ⊕ sum cols z)) 0) refl
      (ap (λ (x : ℕ). mark t (bit_and h x)) (sym (⊕-zero-l (sum cols z))) ∙ m.word z (omega (arith, g, pow_mono k)) (omega (arith, g))))
    where
      go : (z : ℕ) (b : Bool) → eqb (bit_and h (s ⊕ sum cols z)) 0 ≡ b → mark t (bit_and h (sum cols z)) ≡ 1 → (b && leb o (s ⊕ sum cols z)) ≡ false
      go z false e i = refl
      go z true e i =
          let g : bit_and h s ≡ bit_and h (sum cols z) = ⊕-zero-eq (bit_and h s) (bit_and h (sum cols z)) (sym (and-⊕ h s (sum cols z)) ∙ eqb-true _ _ e) in
          absurd (f (ap (mark t) g ∙ i))

  pub seek-shut : Ready t cols h n low → c ≤ n → 0 < v → (ltb low v || eqb (mark t (bit_and h s)) 1) ≡ false → find (fits cols h o s) (listed c v) ≡ None
  seek-shut r k g e =
      let b = neither (ltb low v) (eqb (mark t (bit_and h s)) 1) e in
      let l : v ≤ low = omega (arith, ltb-false low v b.0) in
      unmarked l k (r.words (omega arith)) (eqb-false _ _ b.1)

-- ---- the same from the highest cell c of the words on, c one at a time

module _ (cols : List ℕ) (h o s c v : ℕ) (p : 0 < v) (e : find (fits cols h o s) (listed c v) ≡ None) where
  turn : {r : Option Hit} → find (fits cols h o (s ⊕ get_or cols c 0)) (listed c (v - 1)) ≡ r
      → find (fits cols h o s) (listed (c + 1) v) ≡ moved (λ z. z + 2 ^ c) (length (listed c v)) r
  turn {r} f = go v p e f
    where
      go : (v : ℕ) → 0 < v → find (fits cols h o s) (listed c v) ≡ None → find (fits cols h o (s ⊕ get_or cols c 0)) (listed c (v - 1)) ≡ r
          → find (fits cols h o s) (listed (c + 1) v) ≡ moved (λ z. z + 2 ^ c) (length (listed c v)) r
      go zero p e f = absurd (omega arith)
      go (suc v) p e f =
          let a : suc v - 1 ≡ v = omega arith in
          ap (λ (k : ℕ). find (fits cols h o s) (listed k (suc v))) (add-one c) ∙ find-step cols h o s c v
          ∙ ap₂ (λ (q r : Option Hit). or_hit q (moved (λ z. z + 2 ^ c) (length (listed c (suc v))) r)) e (ap (λ (k : ℕ). find (fits cols h o (s ⊕ get_or cols c 0)) (listed c k)) (sym a) ∙ f)

  pub turn_more : find (fits cols h o (s ⊕ get_or cols c 0)) (listed c (v - 1)) ≡ None → find (fits cols h o s) (listed (c + 1) v) ≡ None
  turn_more f = turn f

  pub turn-hit : {z u k w : ℕ} (n : ℕ) → c < n → find (fits cols h o (s ⊕ get_or cols c 0)) (listed c (v - 1)) ≡ here z u → k ≡ 2 ^ c → w ≡ length (listed c v)
      → find (fits cols h o s) (listed n v) ≡ here (z + k) (u + w)
  turn-hit {z} {u} n l f i j = more v p (turn f) ∙ ap₂ (λ (k w : ℕ). here (z + k) (u + w)) (sym i) (sym j)
    where
      more : (v : ℕ) {x y : ℕ} → 0 < v → find (fits cols h o s) (listed (c + 1) v) ≡ here x y → find (fits cols h o s) (listed n v) ≡ here x y
      more zero p g = absurd (omega arith)
      more (suc v) p g = find-more cols h o s (c + 1) n v (omega arith) g

-- so with none over c cells there is none over fewer
pub turn_end : (cols : List ℕ) (h o s c n v : ℕ) → 0 < v → n ≤ c → find (fits cols h o s) (listed c v) ≡ None → find (fits cols h o s) (listed n v) ≡ None
turn_end cols h o s c n zero p l e = absurd (omega arith)
turn_end cols h o s c n (suc v) p l e = go (find (fits cols h o s) (listed n (suc v))) refl
  where
    go : (r : Option Hit) → find (fits cols h o s) (listed n (suc v)) ≡ r → find (fits cols h o s) (listed n (suc v)) ≡ None
    go None q = q
    go (Some hit) q = absurd (none-some hit (sym e ∙ find-more cols h o s n c v {z = hit.z} {u = hit.place} l q))

-- where a word was found there is room for its cell and its place
pub turn-room : (p : ℕ → Bool) (c v : ℕ) {z u : ℕ} → c < width → 0 < v → v < width → find p (listed c (v - 1)) ≡ here z u
    → (z + 2 ^ c < 2 ^ width) × (u + length (listed c v) < 2 ^ width)
turn-room p c v {z} {u} l b g e =
    let i : In (listed c (v - 1)) (here z u) = subst (In (listed c (v - 1))) e (find-in p (listed c (v - 1))) in
    let j = listed_of c (v - 1) z i.0 in
    let k : 2 ^ suc c ≤ 2 ^ width = pow_mono {i = suc c} {j = width} (omega arith) in
    let w : suc (v - 1) ≡ v = omega arith in (
      omega (arith, pow-suc 2 c),
      omega (
        arith,
        i.1,
        weights-fit width c (v - 1) 2 (omega arith) (omega arith),
        weights-cons c (v - 1) 1,
        weights-cons c (suc (v - 1)) 0,
        weights-nil c (suc (suc (v - 1))),
        ap (λ (m : ℕ). length (listed c m)) w,
      ),
    )
