-- The words of message w are exactly the 2^l sums wG1 + dG0, each from one d. Assumes nothing.
-- A word with message 0 that is no sum of G0 would make, with G0, one row too many beside M and H: exchange forbids it.
use mathlib.Core.Path.{◌≡◌, sym, ap, ap₂, ◌∙◌, subst}
use mathlib.Core.Logic.{◌↔◌}
use mathlib.Core.List.{List, [], ◌∷◌, ◌++◌}
use Prim.Native.Nat.{ℕ, ◌+◌, ◌*◌, ◌/◌, ◌%◌, ◌^◌, ◌<◌}
use native.Mathlib.Nat.{mod-lt, div-add-mod', add_comm, zero-mul}
use native.Mathlib.Omega.{arith}
use lib.ListN.{length, get_or, length-append}
use lib.Pow.{pow_pos, shr_lt, pow-lt}
use Rattle.paper.specs.Words.{cell, product, products, sum, ◌⊕◌}
use Rattle.paper.specs.Sheet.{Sheet, G1, G0, H, M, WordOf}
use Rattle.paper.specs.Writing.{word_of}
use Rattle.words.proofs.Cells.{ext, cell-unit-swap}
use Rattle.words.proofs.Sums.{⊕-cancel, ⊕-self, ⊕-zero-l, ⊕-zero-r, ⊕-lt}
use Rattle.words.proofs.Products.{product-comm, product-unit, cell-products, products_lt, products-⊕, products-zero}
use Rattle.words.proofs.Rows.{sum-zero, sum-append, sum-mod, product-sum}
use Rattle.elimination.proofs.Span.{All, All-map, All-append, Low, Perp, Span, Indep, Cross, span-dec, span-closed, span-lt, sum-span, span-sum, cross-flip, products-of-perp, perp-of-products, indep-of-zero, free-zero, free-once, free-indep}
use Rattle.elimination.proofs.Exchange.{exchange}
use Rattle.sheet.specs.Sound.{Sound}

-- ---- rows dual to rows: what picks a sum of gs is read off by the products with ms

pub read-sum : (gs ms : List ℕ) (d : ℕ) → d < 2 ^ length ms → ((i : ℕ) → i < length ms → products gs (get_or ms i 0) ≡ 2 ^ i)
    → products ms (sum gs d) ≡ d
read-sum gs ms d h e =
    ext (length ms) (products_lt ms (sum gs d)) h
    (λ i l. cell-products ms (sum gs d) i ∙ product-comm (get_or ms i 0) (sum gs d) ∙ product-sum gs d (get_or ms i 0)
    ∙ ap (product d) (e i l) ∙ product-unit d i)

-- a sum of rows that have product 0 with all of ms has too
pub clear-sum : (ms gs : List ℕ) → All (λ g. products ms g ≡ 0) gs → (d : ℕ) → products ms (sum gs d) ≡ 0
clear-sum ms gs h d =
    span-closed (λ g. products ms g ≡ 0) (products-zero ms) (λ x y a b. products-⊕ ms x y ∙ ap₂ ◌⊕◌ a b ∙ ⊕-zero-l 0) gs h (sum gs d) (sum-span gs d)

cross-of : (gs ms : List ℕ) → All (λ g. products ms g ≡ 0) gs → Cross gs ms
cross-of gs ms h = All-map {P = λ g. products ms g ≡ 0} {Q = λ g. All (Perp g) ms} (λ g e. perp-of-products ms g e) gs h

cross-append : (A B C : List ℕ) → Cross A B → Cross A C → Cross A (B ++ C)
cross-append [] B C p q = tt
cross-append (a ∷ A) B C p q = (All-append (Perp a) B C p.0 q.0, cross-append A B C p.1 q.1)

-- the same from the other side
flip : (gs ms : List ℕ) → All (λ g. products ms g ≡ 0) gs → All (λ m. products gs m ≡ 0) ms
flip gs ms h =
    All-map {P = λ m. All (Perp m) gs} {Q = λ m. products gs m ≡ 0} (λ m p. products-of-perp gs m p) ms (cross-flip gs ms (cross-of gs ms h))

module _ (s : Sheet) (ok : Sound s) where
  -- M reads a message back
  pub read_back : (w : ℕ) → w < 2 ^ s.k → products (M s) (sum (G1 s) w) ≡ w
  read_back w h = read-sum (G1 s) (M s) w (rw ok.count-M h) (λ i l. dual i (omega (arith, ok.count-M)))
    where
      -- the products of row i of M with the rows of G1, by those of the rows of G1 with M
      dual : (i : ℕ) → i < s.k → products (G1 s) (get_or (M s) i 0) ≡ 2 ^ i
      dual i l =
          ext (length (G1 s)) (products_lt (G1 s) (get_or (M s) i 0)) (pow-lt (omega (arith, ok.count-G1)))
          (λ j q. cell-products (G1 s) (get_or (M s) i 0) j ∙ product-comm (get_or (G1 s) j 0) (get_or (M s) i 0)
          ∙ sym (cell-products (M s) (get_or (G1 s) j 0) i) ∙ ap (λ (x : ℕ). cell x i) (ok.message-G1 j (omega (arith, ok.count-G1))) ∙ cell-unit-swap j i)

  -- the rows of M and H together are independent: a row of G1 tells which row of M is in a sum of them
  inverse-indep : Indep (M s ++ H s)
  inverse-indep = indep-of-zero (M s ++ H s) none
    where
      none : (d : ℕ) → d < 2 ^ length (M s ++ H s) → sum (M s ++ H s) d ≡ 0 → d ≡ 0
      none d l e =
          let k = length (M s) in
          let low : ℕ = d % 2 ^ k in
          let high : ℕ = d / 2 ^ k in
          let two : sum (M s) low ⊕ sum (H s) high ≡ 0 =
          ap (λ (x : ℕ). x ⊕ sum (H s) high) (sum-mod (M s) d) ∙ sym (sum-append (M s) (H s) d) ∙ e in
          let off : products (G1 s) (sum (H s) high) ≡ 0 = clear-sum (G1 s) (H s) (flip (G1 s) (H s) ok.code-G1) high in
          let own : products (G1 s) (sum (M s) low) ≡ low =
          read-sum (M s) (G1 s) low (subst (λ (m : ℕ). low < 2 ^ m) (ok.count-M ∙ sym ok.count-G1) (mod-lt d (pow_pos k))) (λ i q. ok.message-G1 i (omega (arith, ok.count-G1))) in
          let z : low ≡ 0 =
          sym own ∙ sym (⊕-zero-r (products (G1 s) (sum (M s) low))) ∙ ap (λ (x : ℕ). products (G1 s) (sum (M s) low) ⊕ x) (sym off)
          ∙ sym (products-⊕ (G1 s) (sum (M s) low) (sum (H s) high)) ∙ ap (products (G1 s)) two ∙ products-zero (G1 s) in
          let y : sum (H s) high ≡ 0 =
          sym (⊕-zero-l (sum (H s) high)) ∙ ap (λ (x : ℕ). x ⊕ sum (H s) high) (sym (ap (sum (M s)) z ∙ sum-zero (M s))) ∙ two in
          let h : high ≡ 0 =
          free-zero (H s) ok.free-H high (shr_lt (length (H s)) k (rw (← add_comm k (length (H s)), ← length-append (M s) (H s)) l)) y in
          sym (div-add-mod' d (2 ^ k)) ∙ ap₂ (λ (x y : ℕ). x * 2 ^ k + y) h z ∙ rw (zero-mul (2 ^ k))

  -- a word with product 0 with every row of H and of M is a sum of rows of G0
  pub kernel : (x : ℕ) → x < 2 ^ s.n → products (H s) x ≡ 0 → products (M s) x ≡ 0 → (d : ℕ) × (d < 2 ^ s.l) × (sum (G0 s) d ≡ x)
  kernel x l h m = let r = span-sum (G0 s) x (go (span-dec (G0 s) x)) in (r.0, subst (λ (m : ℕ). r.0 < 2 ^ m) ok.count-G0 r.1, r.2)
    where
      go : Dec (Span (G0 s) x) → Span (G0 s) x
      go (yes q) = q
      go (no f) =
          let e = exchange s.n (x ∷ G0 s) (M s ++ H s) (l, ok.low-G0) (All-append (Low s.n) (M s) (H s) ok.low-M ok.low-H)
          (f, free-indep (G0 s) ok.free-G0) inverse-indep (
            All-append (Perp x) (M s) (H s) (perp-of-products (M s) x m) (perp-of-products (H s) x h),
            cross-append (G0 s) (M s) (H s) (cross-of (G0 s) (M s) ok.message-G0) (cross-of (G0 s) (H s) ok.code-G0),
          ) in
          absurd (omega (arith, e, length-append (M s) (H s), ok.count-G0, ok.count-H, ok.count-M, ok.shape.room))

  sum_low : (gs : List ℕ) → All (Low s.n) gs → (d : ℕ) → sum gs d < 2 ^ s.n
  sum_low gs h d = span-lt s.n gs h (sum gs d) (sum-span gs d)

  -- each sum wG1 + dG0 is a word of message w
  pub word-of : (w d : ℕ) → w < 2 ^ s.k → WordOf s w (word_of s w d)
  word-of w d l = record {
    code = record {
      cells = ⊕-lt s.n (sum (G1 s) w) (sum (G0 s) d) (sum_low (G1 s) ok.low-G1 w) (sum_low (G0 s) ok.low-G0 d);
      checks = products-⊕ (H s) (sum (G1 s) w) (sum (G0 s) d)
          ∙ ap₂ ◌⊕◌ (clear-sum (H s) (G1 s) ok.code-G1 w) (clear-sum (H s) (G0 s) ok.code-G0 d) ∙ ⊕-zero-l 0;
    };
    message = products-⊕ (M s) (sum (G1 s) w) (sum (G0 s) d)
        ∙ ap₂ ◌⊕◌ (read_back w l) (clear-sum (M s) (G0 s) ok.message-G0 d) ∙ ⊕-zero-r w;
  }

  -- "these are exactly the 2^l sums wG1 + dG0"
  pub words_of : (w x : ℕ) → w < 2 ^ s.k → WordOf s w x ↔ ((d : ℕ) × (d < 2 ^ s.l) × (x ≡ word_of s w d))
  words_of w x l = (to, from)
    where
      to : WordOf s w x → (d : ℕ) × (d < 2 ^ s.l) × (x ≡ word_of s w d)
      to h =
          let c : ℕ = sum (G1 s) w in
          let q = kernel (c ⊕ x) (⊕-lt s.n c x (sum_low (G1 s) ok.low-G1 w) h.code.cells)
          (products-⊕ (H s) c x ∙ ap₂ ◌⊕◌ (clear-sum (H s) (G1 s) ok.code-G1 w) h.code.checks ∙ ⊕-zero-l 0)
          (products-⊕ (M s) c x ∙ ap₂ ◌⊕◌ (read_back w l) h.message ∙ ⊕-self w) in
          (q.0, q.1, sym (ap (λ (z : ℕ). c ⊕ z) q.2 ∙ ⊕-cancel c x))

      from : ((d : ℕ) × (d < 2 ^ s.l) × (x ≡ word_of s w d)) → WordOf s w x
      from q = subst (WordOf s w) (sym q.2) (word-of w q.0 l)

  -- "each from one d"
  pub words-once : (w d e : ℕ) → d < 2 ^ s.l → e < 2 ^ s.l → word_of s w d ≡ word_of s w e → d ≡ e
  words-once w d e h l q =
      free-once (G0 s) ok.free-G0 d e (rw ok.count-G0 h) (rw ok.count-G0 l)
      (sym (⊕-cancel (sum (G1 s) w) (sum (G0 s) d)) ∙ ap (λ (x : ℕ). sum (G1 s) w ⊕ x) q ∙ ⊕-cancel (sum (G1 s) w) (sum (G0 s) e))
