-- What the verdict on a sheet says: a refused sheet is refused by every call alike, and an admitted one is sound.
-- Every call and every theorem starts from these. Assumes nothing.
use mathlib.Core.Path.{◌≡◌, refl, sym, ap, ◌∙◌, subst}
use mathlib.Core.Bool.{Bool, true, false, cond, not, ◌&&◌, true≢false, and-eq-true_iff}
use mathlib.Core.Logic.Iff
use mathlib.Core.Logic.{◌↔◌}
use mathlib.Core.List.{List, [], ◌∷◌}
use Prim.Native.Nat.{ℕ, zero, suc, ◌+◌, ◌^◌, ◌≤◌, ◌<◌}
use native.Mathlib.Decide.{ℕ_discrete}
use native.Mathlib.Omega.{arith}
use borrow.Author.Tests.{leb-true, leb-false, eqb-true, eq-eqb, ne_eqb}
use lib.Dec.{leb, eqb}
use lib.ListN.{length, get_or, take, drop, length-take, length-drop}
use lib.Pow.{pow-lt}
use lib.Seq.{get_or-take, get_or-drop}
use Rattle.paper.specs.First.{First, nowhere, first}
use Rattle.paper.specs.Words.{width, cell, product, products}
use Rattle.paper.specs.Refusals.{Told, answer, refusal}
use Rattle.paper.specs.Sheet.{Sheet, r, G1, G0, H, M, G, shaped, stray, wanted, off, off_code, off_message, dependent, judged_sums, judged_rows, judged, admits, Admitted}
use Rattle.words.proofs.Cells.{ext, no_cell, cell-unit, cell-unit-other}
use Rattle.words.proofs.Products.{product-comm, cell-products, products_lt}
use Rattle.words.proofs.Firsts.{first-all, any-all}
use Rattle.elimination.proofs.Span.{All, Low}
use Rattle.sheet.specs.Sound.{Shaped, Sound}
use Rattle.rules.proofs.Rules.{is_refusal, of_sheet, not-of-sheet, not-told, past, past-at}
use Rattle.rules.proofs.Stages.{Stage, passes, refuses, unless-stage, unless_at-stage, then, refused-alike, alike-refused}

-- ---- an admitted sheet passes each rule

-- the rows at which rules 2 to 6 first break, counted in their parts of the sheet
abbrev pub stray-row : Sheet → First
stray-row s = first (length s.rows) (stray s)

abbrev pub code_row : Sheet → First
code_row s = first (s.k + s.l) (off_code s)

abbrev pub message-row : Sheet → First
message-row s = first (s.k + s.l) (off_message s)

abbrev pub G0-row : Sheet → First
G0-row s = first s.l (dependent (G0 s))

abbrev pub H-row : Sheet → First
H-row s = first (r s) (dependent (H s))

-- rules 1 to 6 hold
pub record Passed (s : Sheet) : Type 0 where
  pub shape : shaped s ≡ true
  pub strays : stray-row s ≡ nowhere
  pub codes : code_row s ≡ nowhere
  pub messages : message-row s ≡ nowhere
  pub sums-G0 : G0-row s ≡ nowhere
  pub sums-H : H-row s ≡ nowhere

-- what no rule of the sheet tells is told past them all
through : (s : Sheet) (next t : Told) → of_sheet t ≡ false → judged s next ≡ t → Passed s × (next ≡ t)
unfolding judged judged_rows judged_sums
through s next t h e =
    let other : (i : ℕ) → i ≤ 6 → is_refusal i t ≡ false = λ i l. not-of-sheet i t l h in
    let a = (past 1 _ (shaped s) Iff.rfl t (other 1 (omega arith))).0 e in
    let b = (past-at 2 _ (stray-row s) 0 t (other 2 (omega arith))).0 a.1 in
    let c = (past-at 3 _ (code_row s) 0 t (other 3 (omega arith))).0 b.1 in
    let d = (past-at 4 _ (message-row s) 0 t (other 4 (omega arith))).0 c.1 in
    let f = (past-at 5 _ (G0-row s) s.k t (other 5 (omega arith))).0 d.1 in
    let g = (past-at 6 next (H-row s) (s.k + s.l) t (other 6 (omega arith))).0 f.1 in
    (record { shape = a.0; strays = b.0; codes = c.0; messages = d.0; sums-G0 = f.0; sums-H = g.0 }, g.1)

-- and a sheet that passes them passes to what comes next
pub passed-next : (s : Sheet) → Passed s → (next : Told) → judged s next ≡ next
unfolding judged judged_rows judged_sums
passed-next s p next = rw (p.shape, p.strays, p.codes, p.messages, p.sums-G0, p.sums-H)

passed : (s : Sheet) → Admitted s → Passed s
passed s ok = (through s (answer []) (answer []) refl ok).0

-- an admitted sheet passes to what comes next
pub admitted-next : (s : Sheet) → Admitted s → (next : Told) → judged s next ≡ next
admitted-next s ok = passed-next s (passed s ok)

-- "Order: 1 to 6 for every call": what no rule of the sheet tells is told of admitted sheets alone
pub past-judged : (s : Sheet) (next t : Told) → of_sheet t ≡ false → (judged s next ≡ t) ↔ (Admitted s × (next ≡ t))
past-judged s next t h =
    (λ e. let q = through s next t h e in (passed-next s q.0 (answer []), q.1), λ p. admitted-next s p.0 next ∙ p.1)

-- ---- a refused sheet is refused alike by every call

-- the sheet's rules as one chain
pub judged-stage : (s : Sheet) → Stage (judged s)
unfolding judged judged_rows judged_sums
judged-stage s =
    then (unless-stage (shaped s) 1)
    (then (unless_at-stage (stray-row s) 2 0)
    (then (unless_at-stage (code_row s) 3 0)
    (then (unless_at-stage (message-row s) 4 0)
    (then (unless_at-stage (G0-row s) 5 s.k) (unless_at-stage (H-row s) 6 (s.k + s.l))))))

-- "Every call answers as if it checked the sheet afresh": what rules 1 to 6 tell, every call tells alike
pub sheet-told : (s : Sheet) (next : Told) → of_sheet next ≡ false → (number : ℕ) (given : List ℕ) → number ≤ 6
    → (judged s next ≡ refusal number given) ↔ (admits s ≡ refusal number given)
sheet-told s next late number given h =
    (alike-refused (judged-stage s) next (λ e. not-told (sym e) (not-of-sheet number next h late)), λ e. refused-alike (judged-stage s) e next)

-- what is told alike of an admitted sheet is told alike of any other, whose refusal comes first
pub on-admitted : (s : Sheet) (a b : Told) → (Admitted s → judged s a ≡ judged s b) → judged s a ≡ judged s b
on-admitted s a b f = go (judged-stage s)
  where
    go : Stage (judged s) → judged s a ≡ judged s b
    go (passes p) = f (p (answer []))
    go (refuses number given p) = p a ∙ sym (p b)

-- ---- and so it is sound

pub shaped-facts : (s : Sheet) → shaped s ≡ true → Shaped s
shaped-facts s e =
    let p = (and-eq-true_iff (leb 1 s.n && leb s.n width && leb 1 s.k && leb (s.k + s.l) s.n) (eqb (length s.rows) (s.n + s.k))).0 e in
    let q = (and-eq-true_iff (leb 1 s.n && leb s.n width && leb 1 s.k) (leb (s.k + s.l) s.n)).0 p.0 in
    let t = (and-eq-true_iff (leb 1 s.n && leb s.n width) (leb 1 s.k)).0 q.0 in
    let u = (and-eq-true_iff (leb 1 s.n) (leb s.n width)).0 t.0 in
    record {
      some-cells = leb-true 1 s.n u.0;
      few-cells = leb-true s.n width u.1;
      some-message = leb-true 1 s.k t.1;
      room = leb-true (s.k + s.l) s.n q.1;
      all-rows = eqb-true (length s.rows) (s.n + s.k) p.1;
    }

-- a property of each row by its number, and back
all-get : (P : ℕ → Type 0) (rows : List ℕ) → ((i : ℕ) → i < length rows → P (get_or rows i 0)) → All P rows
all-get P [] h = tt
all-get P (g ∷ gs) h = (h 0 (omega arith), all-get P gs (λ i l. h (suc i) (omega arith)))

pub all-at : (P : ℕ → Type 0) (rows : List ℕ) → All P rows → (i : ℕ) → i < length rows → P (get_or rows i 0)
all-at P [] a i h = absurd (omega arith)
all-at P (g ∷ gs) a zero h = a.0
all-at P (g ∷ gs) a (suc i) h = all-at P gs a.1 i (omega arith)

-- the rows of a part, by their numbers in the whole
module _ (rows : List ℕ) (from count : ℕ) (inside : from + count ≤ length rows) where
  pub part_length : length (take count (drop from rows)) ≡ count
  part_length = simp (length-take, length-drop) (omega arith)

  pub part_at : (i : ℕ) → i < count → get_or (take count (drop from rows)) i 0 ≡ get_or rows (from + i) 0
  part_at i h = rw (get_or-take count (drop from rows) i 0 h, get_or-drop)

  part-all : (P : ℕ → Type 0) → ((i : ℕ) → i < length rows → P (get_or rows i 0)) → All P (take count (drop from rows))
  part-all P h =
      all-get P (take count (drop from rows))
      (λ i l. let k : i < count = omega (arith, part_length) in subst P (sym (part_at i k)) (h (from + i) (omega arith)))

-- the product that is wanted, where no row is off
on : (own : ℕ) (gs others : List ℕ) (i j : ℕ) → off own gs others i ≡ false → j < length others
    → product (get_or gs i 0) (get_or others j 0) ≡ wanted own i j
on own gs others i j e l = go (eqb (product (get_or gs i 0) (get_or others j 0)) (wanted own i j)) refl
  where
    go : (b : Bool) → eqb (product (get_or gs i 0) (get_or others j 0)) (wanted own i j) ≡ b → product (get_or gs i 0) (get_or others j 0) ≡ wanted own i j
    go true q = eqb-true _ _ q
    go false q = absurd (true≢false (sym (ap not q) ∙ any-all _ (length others) j e l))

pub own-wanted : (own i : ℕ) → wanted own i i ≡ own
own-wanted own i = ap (λ (b : Bool). cond b own 0) (eq-eqb i i refl)

pub no-wanted : (own i j : ℕ) → (i ≡ j → ⊥) → wanted own i j ≡ 0
no-wanted own i j n = ap (λ (b : Bool). cond b own 0) (ne_eqb i j n)

pub zero-wanted : (i j : ℕ) → wanted 0 i j ≡ 0
zero-wanted i j = go (eqb i j)
  where
    go : (b : Bool) → ◌≡◌ {A = ℕ} (cond b 0 0) 0
    go true = refl
    go false = refl

-- own is 1: the cells of the word that is 1 at cell i alone
pub unit-wanted : (i j : ℕ) → wanted 1 i j ≡ cell (2 ^ i) j
unit-wanted i j = go (ℕ_discrete i j)
  where
    go : Dec (i ≡ j) → wanted 1 i j ≡ cell (2 ^ i) j
    go (yes q) = subst (λ (m : ℕ). wanted 1 i m ≡ cell (2 ^ i) m) q (own-wanted 1 i ∙ sym (cell-unit i))
    go (no n) = no-wanted 1 i j n ∙ sym (cell-unit-other i j n)

-- a word whose product with row j is 1 for j = i alone, or for none
products-only : (rows : List ℕ) (x i : ℕ) → i < length rows → ((j : ℕ) → j < length rows → product x (get_or rows j 0) ≡ wanted 1 i j)
    → products rows x ≡ 2 ^ i
products-only rows x i h e =
    ext (length rows) (products_lt rows x) (pow-lt h) (λ j l. cell-products rows x j ∙ product-comm (get_or rows j 0) x ∙ e j l ∙ unit-wanted i j)

products-none : (rows : List ℕ) (x : ℕ) → ((j : ℕ) → j < length rows → product x (get_or rows j 0) ≡ 0) → products rows x ≡ 0
products-none rows x e =
    no_cell (length rows) (products_lt rows x) (λ j l. cell-products rows x j ∙ product-comm (get_or rows j 0) x ∙ e j l)

-- the facts, from the rules passed
module _ (s : Sheet) (ok : Passed s) where
  shape_of : Shaped s
  shape_of = shaped-facts s ok.shape

  low-row : (i : ℕ) → i < length s.rows → get_or s.rows i 0 < 2 ^ s.n
  low-row i l = omega (arith, leb-false (2 ^ s.n) (get_or s.rows i 0) (first-all _ (length s.rows) i ok.strays l))

  inside-G1 : 0 + s.k ≤ length s.rows
  inside-G1 = omega (arith, shape_of.all-rows)

  inside-G0 : s.k + s.l ≤ length s.rows
  inside-G0 = omega (arith, shape_of.all-rows, shape_of.room)

  inside-H : s.k + s.l + r s ≤ length s.rows
  inside-H = omega (arith, shape_of.all-rows, shape_of.room)

  inside-M : s.n + s.k ≤ length s.rows
  inside-M = omega (arith, shape_of.all-rows)

  -- row i of G1 and G0 together, in its part
  G-at : (i : ℕ) → i < s.k + s.l → get_or (G s) i 0 ≡ get_or s.rows i 0
  G-at i l = rw (get_or-take (s.k + s.l) s.rows i 0 l)

  G1-at : (i : ℕ) → i < s.k → get_or (G1 s) i 0 ≡ get_or (G s) i 0
  G1-at i l = rw (get_or-take s.k s.rows i 0 l) (sym (G-at i (omega arith)))

  G0-at : (i : ℕ) → i < s.l → get_or (G0 s) i 0 ≡ get_or (G s) (s.k + i) 0
  G0-at i l = part_at s.rows s.k s.l inside-G0 i l ∙ sym (G-at (s.k + i) (omega arith))

  in_code : (i : ℕ) → i < s.k + s.l → products (H s) (get_or (G s) i 0) ≡ 0
  in_code i l =
      products-none (H s) (get_or (G s) i 0)
      (λ j m. on 0 (G s) (H s) i j (first-all _ (s.k + s.l) i ok.codes l) m ∙ zero-wanted i j)

  on-M : (i j : ℕ) → i < s.k + s.l → j < length (M s) → product (get_or (G s) i 0) (get_or (M s) j 0) ≡ wanted 1 i j
  on-M i j l m = on 1 (G s) (M s) i j (first-all _ (s.k + s.l) i ok.messages l) m

  count-M' : length (M s) ≡ s.k
  count-M' = part_length s.rows s.n s.k inside-M

  pub sound-of : Sound s
  sound-of = record {
    shape = shape_of;
    count-G1 = part_length s.rows 0 s.k inside-G1;
    count-G0 = part_length s.rows s.k s.l inside-G0;
    count-H = part_length s.rows (s.k + s.l) (r s) inside-H;
    count-M = count-M';
    low-G1 = part-all s.rows 0 s.k inside-G1 (Low s.n) low-row;
    low-G0 = part-all s.rows s.k s.l inside-G0 (Low s.n) low-row;
    low-H = part-all s.rows (s.k + s.l) (r s) inside-H (Low s.n) low-row;
    low-M = part-all s.rows s.n s.k inside-M (Low s.n) low-row;
    code-G1 = all-get _ (G1 s) (λ i l. let m : i < s.k = omega (arith, part_length s.rows 0 s.k inside-G1) in rw (G1-at i m) (in_code i (omega arith)));
    code-G0 = all-get _ (G0 s) (λ i l. let m : i < s.l = omega (arith, part_length s.rows s.k s.l inside-G0) in rw (G0-at i m) (in_code (s.k + i) (omega arith)));
    message-G1 = λ i l. rw (G1-at i l) (products-only (M s) (get_or (G s) i 0) i (omega (arith, count-M')) (λ j m. on-M i j (omega arith) m));
    message-G0 = all-get _ (G0 s) (λ i l.
        let m : i < s.l = omega (arith, part_length s.rows s.k s.l inside-G0) in
        rw (G0-at i m) (products-none (M s) (get_or (G s) (s.k + i) 0)
        (λ j q. on-M (s.k + i) j (omega arith) q ∙ no-wanted 1 (s.k + i) j (λ e. omega (arith, count-M')))));
    free-G0 = λ j l. first-all _ s.l j ok.sums-G0 (omega (arith, part_length s.rows s.k s.l inside-G0));
    free-H = λ j l. first-all _ (r s) j ok.sums-H (omega (arith, part_length s.rows (s.k + s.l) (r s) inside-H));
  }

-- an admitted sheet is sound
pub sound : (s : Sheet) → Admitted s → Sound s
sound s ok = sound-of s (passed s ok)
