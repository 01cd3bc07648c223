-- Marks: what one mark more keeps, which words have marks, and which tables a search may look at. Assumes nothing.
use mathlib.Core.Path.{◌≡◌, sym, ap, ◌∙◌}
use mathlib.Core.List.{List}
use Prim.Native.Nat.{ℕ, ◌+◌, ◌-◌, ◌*◌, ◌/◌, ◌%◌, ◌^◌, ◌≤◌, ◌<◌}
use native.Mathlib.Nat.{pow-suc, lt_of_lt_of_le}
use native.Mathlib.Numerals.{add-one}
use native.Mathlib.Decide.{dec_le, ℕ_discrete}
use native.Mathlib.Omega.{arith}
use lib.Arith.{lt-one}
use lib.Bits.{bit_and, bit_or, bit_xor, and_le_r}
use lib.ListN.{length, get_or, set, length-set}
use lib.Pow.{pow_mono}
use lib.Seq.{get_or-set_same, get_or-set_other}
use Rattle.std.proofs.Common.{take, w64}
use Rattle.std.proofs.lemmas.List.{get_or-take, length-take}
use Rattle.std.proofs.lemmas.Nat.Bits.{bit_at_set_same}
use Rattle.paper.specs.Words.{width, cell, weight, sum, ◌⊕◌}
use Rattle.words.proofs.Cells.{cell-or, cell-lt}
use Rattle.words.proofs.Sums.{⊕-assoc, ⊕-zero-r, ones-zero-eq, ones_above}
use Rattle.words.proofs.Rows.{sum-zero, sum_top}
use Rattle.marks.specs.Marks.{bit, slot, mark, Marked, Ready, Kept}

-- a place lies in its table
pub slot_lt : (size x : ℕ) → 1 ≤ size → slot size x < size * width
slot_lt size x h = omega (arith, and_le_r (bit_xor (x % 1000003) (x % 1000003 / 16)) (size * width - 1))

-- an item of the first k is an item of all
pub get_or-first : (k i : ℕ) (xs : List ℕ) → i < length (take k xs) → get_or (take k xs) i 0 ≡ get_or xs i 0
get_or-first k i xs h = get_or-take k xs i 0 (omega (arith, h, length-take k xs))

-- ---- a bit more, at the place i

module _ (t : List ℕ) (i : ℕ) (h : i / width < length t) where
  -- the word of the table at i, with its bit set as the code sets it
  abbrev word : ℕ
  word = bit_or (get_or t (i / width) 0) (1 * 2 ^ (i % width) % 2 ^ width)

  -- the table with that word
  unfoldable pub after : List ℕ
  after = set t (i / width) word

  -- it is as long as before
  after-length : length after ≡ length t
  unfolding after
  after-length = length-set t (i / width) word

  -- it has the bit at i
  after-has : bit after i ≡ 1
  unfolding after
  after-has = rw (get_or-set_same t (i / width) word 0 h) (bit_at_set_same w64 (get_or t (i / width) 0) (i % width) (omega arith))

  -- a bit that the word had is left
  word-keeps : (j : ℕ) → cell (get_or t (i / width) 0) j ≡ 1 → cell word j ≡ 1
  word-keeps j e = omega (arith, e, cell-or (get_or t (i / width) 0) (1 * 2 ^ (i % width) % 2 ^ width) j, cell-lt word j)

  -- a bit that the table had is left
  after-keeps : (j : ℕ) → bit t j ≡ 1 → bit after j ≡ 1
  unfolding after
  after-keeps j e = go (ℕ_discrete (j / width) (i / width))
    where
      go : Dec (j / width ≡ i / width) → bit (set t (i / width) word) j ≡ 1
      go (no n) = rw (get_or-set_other t (i / width) (j / width) word 0 n) e
      go (yes q) = let f = rw q at e in rw (q, get_or-set_same t (i / width) word 0 h) (word-keeps (j % width) f)

  -- a number has its mark where i is its place
  pub put_has : (x : ℕ) → i ≡ slot (length t) x → mark after x ≡ 1
  unfolding mark
  put_has x e = rw (after-length, ← e) after-has

  -- no mark is lost
  pub put_keeps : Kept t after
  unfolding mark
  put_keeps = record { keeps = λ x e. rw after-length (after-keeps (slot (length t) x) e) }

-- ---- the words that have marks

-- marks that are kept twice are kept
pub kept-kept : {t u w : List ℕ} → Kept t u → Kept u w → Kept t w
kept-kept a b = record { keeps = λ x e. b.keeps x (a.keeps x e) }

-- words keep their marks
pub kept-marked : {t u cols : List ℕ} {h s n v : ℕ} → Kept t u → Marked t cols h s n v → Marked u cols h s n v
kept-marked k m = record { word = λ z l w. k.keeps _ (m.word z l w) }

-- words over fewer cells, and of less weight, are among those that have marks
pub marked-less : {t cols : List ℕ} {h s n v c w : ℕ} → c ≤ n → w ≤ v → Marked t cols h s n v → Marked t cols h s c w
marked-less l g m = record { word = λ z a e. m.word z (lt_of_lt_of_le a (pow_mono l)) (omega arith) }

module _ (t cols : List ℕ) (h s : ℕ) where
  -- the word 0 has the mark of s
  alone : (z : ℕ) → z ≡ 0 → mark t (bit_and h s) ≡ 1 → mark t (bit_and h (s ⊕ sum cols z)) ≡ 1
  alone z e m = rw (e, sum-zero cols, ⊕-zero-r s) m

  -- the words of weight 0
  pub marked-none : (n : ℕ) → mark t (bit_and h s) ≡ 1 → Marked t cols h s n 0
  marked-none n m = record { word = λ z l w. alone z (ones-zero-eq z (omega arith)) m }

  -- the words over 0 cells
  pub marked_start : (v : ℕ) → mark t (bit_and h s) ≡ 1 → Marked t cols h s 0 v
  marked_start v m = record { word = λ z l w. alone z (lt-one l) m }

  -- the words over one cell more: those without the cell c, and those with it, whose rest weighs 1 less
  pub marked_more : (c v : ℕ) → Marked t cols h s c v → Marked t cols h (s ⊕ get_or cols c 0) c (v - 1) → Marked t cols h s (c + 1) v
  marked_more c v a b = record { word = λ z l w. go z l w (dec_le (2 ^ c) z) }
    where
      two : 2 ^ (c + 1) ≡ 2 ^ c + 2 ^ c
      two = rw (add-one c, pow-suc 2 c) (omega arith)

      go : (z : ℕ) → z < 2 ^ (c + 1) → weight z ≤ v → Dec (2 ^ c ≤ z) → mark t (bit_and h (s ⊕ sum cols z)) ≡ 1
      go z l w (no g) = a.word z (omega arith) w
      go z l w (yes g) =
          let f : z ≡ z - 2 ^ c + 2 ^ c = omega arith in
          let k : z - 2 ^ c < 2 ^ c = omega (arith, two) in
          let e = ap weight f ∙ ones_above c (z - 2 ^ c) k in
          ap (λ (x : ℕ). mark t (bit_and h (s ⊕ sum cols x))) f
          ∙ ap (λ (x : ℕ). mark t (bit_and h (s ⊕ x))) (sum_top cols c (z - 2 ^ c) k)
          ∙ ap (λ (x : ℕ). mark t (bit_and h x)) (sym (⊕-assoc s (get_or cols c 0) (sum cols (z - 2 ^ c))))
          ∙ b.word (z - 2 ^ c) k (omega arith)

-- ---- a table that a search may look at

-- one on which the words of weight at most low were marked
pub ready_made : {t cols : List ℕ} {h n low : ℕ} → 1 ≤ length t → length t ≤ 65536 → Marked t cols h 0 n low → Ready t cols h n low
ready_made a b m = record { some = a; room = b; words = λ p. m }

-- any table, for a search that goes by no mark
pub ready-none : (t cols : List ℕ) (h n : ℕ) → 1 ≤ length t → length t ≤ 65536 → Ready t cols h n 0
ready-none t cols h n a b = record { some = a; room = b; words = λ p. absurd (omega arith) }

-- the same table, over fewer cells
pub ready-less : {t cols : List ℕ} {h n low c : ℕ} → c ≤ n → Ready t cols h n low → Ready t cols h c low
ready-less l r = record { some = r.some; room = r.room; words = λ p. marked-less l (omega arith) (r.words p) }
