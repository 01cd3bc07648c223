-- The records and the words of a line: one more of them, and only as many as a room holds.
-- For the loops that copy them. Assumes nothing.
use mathlib.Core.Path.{◌≡◌, refl, sym, ap, ap₂, ◌∙◌}
use mathlib.Core.List.{List, [], ◌∷◌, ◌++◌}
use Prim.Native.Nat.{ℕ, zero, suc, ◌+◌, ◌-◌, ◌*◌, ◌≤◌, ◌<◌, min}
use native.Mathlib.Numerals.{add-one}
use native.Mathlib.Decide.{dec_le}
use native.Mathlib.Omega.{arith}
use lib.ListN.{length, take, drop, set, length-take, length-drop}
use lib.Seq.{take_all, take-take, take-suc, take-suc-set, get_or-drop}
use Rattle.paper.specs.declared.StuckCell.{StuckCell}
use Rattle.text.specs.Bytes.{bytes}
use Rattle.lines.specs.Arguments.{at, part}
use Rattle.lines.specs.Shapes.{Records, Stands}
use Rattle.lines.proofs.Shapes.{records-fit}
use Rattle.rooms.specs.Lent.{page_at, page_end, page_in, record_at, records_from}

-- one record more
records-more : (count i : ℕ) (ns : List ℕ) → records_from (suc count) i ns ≡ records_from count i ns ++ (record_at (i + 3 * count) ns ∷ [])
unfolding records_from
records-more zero i ns = ap (λ (k : ℕ). record_at k ns ∷ []) (let e : i ≡ i + 3 * 0 = omega arith in e)
records-more (suc count) i ns =
    ap (λ (rs : List StuckCell). record_at i ns ∷ rs)
    (records-more count (i + 3) ns
    ∙ ap (λ (k : ℕ). records_from count (i + 3) ns ++ (record_at k ns ∷ [])) (let e : i + 3 + 3 * count ≡ i + 3 * suc count = omega arith in e))

-- none
pub records-none : (i : ℕ) (ns : List ℕ) → [] ≡ records_from 0 i ns
unfolding records_from
records-none i ns = refl

-- how many there are
records-length : (count i : ℕ) (ns : List ℕ) → length (records_from count i ns) ≡ count
unfolding records_from
records-length zero i ns = refl
records-length (suc count) i ns = ap suc (records-length count (i + 3) ns)

-- the first of them
records-first : (few count i : ℕ) (ns : List ℕ) → few ≤ count → records_from few i ns ≡ take few (records_from count i ns)
unfolding records_from
records-first zero count i ns h = refl
records-first (suc few) zero i ns h = absurd (omega arith)
records-first (suc few) (suc count) i ns h = ap (λ (rs : List StuckCell). record_at i ns ∷ rs) (records-first few count (i + 3) ns (omega arith))

-- as many as there are, if a room holds them, else as many as it holds
take-smaller : {A : Type 0} (held count most : ℕ) (l : List A) → held ≡ min count most → take held l ≡ take most (take count l)
take-smaller held count most l e = go (dec_le most count)
  where
    go : Dec (most ≤ count) → take held l ≡ take most (take count l)
    go (yes h) = ap (λ (k : ℕ). take k l) (let z : held ≡ most = omega arith in z) ∙ sym (take-take most count l h)
    go (no h) =
        ap (λ (k : ℕ). take k l) (let z : held ≡ count = omega (arith, h) in z)
        ∙ sym (take_all most (take count l) (omega (arith, h, length-take count l)))

-- the numbers from a place on that a room holds
pub words-clipped : (held count most from : ℕ) (ns : List ℕ) → held ≡ min count most → take held (drop from ns) ≡ take most (part from (from + count) ns)
words-clipped held count most from ns e =
    take-smaller held count most (drop from ns) e
    ∙ ap (λ (k : ℕ). take most (take k (drop from ns))) (let z : count ≡ from + count - from = omega arith in z)

-- and the records
pub records-clipped : (held count most i : ℕ) (ns : List ℕ) → held ≡ min count most → records_from held i ns ≡ take most (records_from count i ns)
records-clipped held count most i ns e =
    records-first held count i ns (omega arith) ∙ take-smaller held count most (records_from count i ns) e
    ∙ ap (take most) (take_all count (records_from count i ns) (omega (arith, records-length count i ns)))

-- a page has as many slots as its count says
pub page-slots : (ns : List ℕ) → page_end ns ≤ length ns → length (page_in ns) ≡ at ns (page_at ns)
page-slots ns h = omega (arith, length-take (page_end ns - (page_at ns + 1)) (drop (page_at ns + 1) ns), length-drop (page_at ns + 1) ns)

-- the numbers of each record of a write are those that their places hold, whatever stands behind them
pub records-hold : (shape ns : List ℕ) → Stands (bytes "nnnLnLR" ++ shape) 0 ns → Records (at ns (page_end ns)) (page_end ns + 1) ns
records-hold shape ns h = records-fit (at ns (page_end ns)) (page_end ns + 1) ns h.4.4.4.4.4.4.3

-- a record is stored behind those before it
pub record-stored : (room : List StuckCell) (from i : ℕ) (ns : List ℕ) → i < length room → take i room ≡ records_from i from ns
    → take (i + 1) (set room i (record_at (from + 3 * i) ns)) ≡ records_from (i + 1) from ns
record-stored room from i ns h e =
    rw (add-one i)
    (take-suc-set room i (record_at (from + 3 * i) ns) h ∙ ap (λ (rs : List StuckCell). rs ++ (record_at (from + 3 * i) ns ∷ [])) e
    ∙ sym (records-more i from ns))

-- a word is stored behind those before it
pub word-stored : (room : List ℕ) (from i : ℕ) (ns : List ℕ) → i < length room → from + i < length ns → take i room ≡ take i (drop from ns)
    → take (i + 1) (set room i (at ns (from + i))) ≡ take (i + 1) (drop from ns)
word-stored room from i ns h k e =
    let more : i < length (drop from ns) = omega (arith, length-drop from ns) in
    rw (add-one i)
    (take-suc-set room i (at ns (from + i)) h
    ∙ ap₂ (λ (xs : List ℕ) (x : ℕ). xs ++ (x ∷ [])) e (sym (get_or-drop from ns i 0))
    ∙ sym (take-suc (drop from ns) i 0 more))
