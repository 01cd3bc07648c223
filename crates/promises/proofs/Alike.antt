-- Two admitted sheets of the same n, k and l with the same G1 and G0 have the same words of each message, and every call of the store tells the same of both, whatever their H and M are.
-- So a sheet that is built anew of its tables may take the old one's place. For request 4. Assumes nothing.
use mathlib.Core.Path.{◌≡◌, refl, sym, ap, ap₂, ◌∙◌, subst}
use mathlib.Core.Bool.{Bool, not, ◌&&◌}
use mathlib.Core.Logic.{◌↔◌}
use mathlib.Core.List.{List, [], ◌∷◌}
use Prim.Native.Nat.{ℕ, ◌+◌, ◌%◌, ◌^◌, ◌<◌}
use native.Mathlib.Decide.{ℕ_discrete}
use native.Mathlib.Nat.{mod-lt}
use borrow.Author.Tests.{ne_eqb, eqb-true}
use lib.Dec.{eqb, leb, ltb}
use lib.ListN.{length}
use lib.Pow.{pow_pos}
use Rattle.paper.specs.First.{First, nowhere, at, first}
use Rattle.paper.specs.Listing.{Search, found, missed, weights}
use Rattle.paper.specs.Plate.{search_d0, search_d1, plate_d0, plate_d1, capped, measures_admitted_d0, measures_admitted_d1, measures_d0, measures_d1}
use Rattle.paper.specs.Reading.{stray_cell, most_radius, nearest, heard, reads_admitted, reads}
use Rattle.paper.specs.Refusals.{Told, answer, unless, unless_at}
use Rattle.paper.specs.Sheet.{Sheet, sheet, G1, G0, H, M, Admitted, WordOf}
use Rattle.paper.specs.Words.{width, products, sum, ◌⊕◌}
use Rattle.paper.specs.Writing.{word_of, fits, misplaced, fitting, chosen, writes_admitted, writes}
use Rattle.words.proofs.Firsts.{first-same}
use Rattle.words.proofs.Products.{products_lt}
use Rattle.elimination.proofs.Span.{products_low}
use Rattle.listing.proofs.Searched.{search-same, found_first}
use Rattle.sheet.proofs.Messages.{words_of}
use Rattle.sheet.proofs.Tests.{eqb_same}
use Rattle.sheet.proofs.Verdicts.{sound, admitted-next}

-- the words of a message with one sheet are its words with the other
module _ (n k l : ℕ) (rows rows' : List ℕ) where
  -- the two sheets
  abbrev one : Sheet
  one = sheet n k l rows

  abbrev other : Sheet
  other = sheet n k l rows'

  module _ (e : G1 one ≡ G1 other) (f : G0 one ≡ G0 other) where
    -- the same sums wG1 + dG0
    word_same : (w d : ℕ) → word_of one w d ≡ word_of other w d
    word_same w d = ap₂ (λ (gs os : List ℕ). sum gs w ⊕ sum os d) e f

    word-to : Admitted one → Admitted other → (w x : ℕ) → WordOf one w x → WordOf other w x
    word-to ok ok' w x q =
        let z = sound one ok in
        let low : w < 2 ^ k = subst (λ (m : ℕ). w < 2 ^ m) z.count-M (subst (λ (m : ℕ). m < 2 ^ length (M one)) q.message (products_lt (M one) x)) in
        let d = (words_of one z w x low).0 q in
        (words_of other (sound other ok') w x low).1 (d.0, d.1, d.2 ∙ word_same w d.0)

    -- a word in the code of one, of any number of cells: it has the same message with the other, in whose code it is
    code-to : Admitted one → Admitted other → (x : ℕ) → products (H one) x ≡ 0 → (products (H other) x ≡ 0) × (products (M other) x ≡ products (M one) x)
    code-to ok ok' x h =
        let z = sound one ok in
        let z' = sound other ok' in
        let y = x % 2 ^ n in
        let q = word-to ok ok' (products (M one) y) y
        (record { code = record { cells = mod-lt x (pow_pos n); checks = products_low n (H one) z.low-H x ∙ h }; message = refl }) in (
          sym (products_low n (H other) z'.low-H x) ∙ q.code.checks,
          sym (products_low n (M other) z'.low-M x) ∙ q.message ∙ products_low n (M one) z.low-M x,
        )

module _ (n k l : ℕ) (rows rows' : List ℕ) where
  abbrev s : Sheet
  s = sheet n k l rows

  abbrev t : Sheet
  t = sheet n k l rows'

  module _ (e : G1 s ≡ G1 t) (f : G0 s ≡ G0 t) (ok : Admitted s) (ok' : Admitted t) where
    -- the same words of each message
    pub same-words : (w x : ℕ) → WordOf s w x ↔ WordOf t w x
    same-words w x = (word-to n k l rows rows' e f ok ok' w x, word-to n k l rows' rows (sym e) (sym f) ok' ok w x)

    -- a write is told alike
    pub same_writes : (w stuck levels : ℕ) → writes s w stuck levels ≡ writes t w stuck levels
    unfolding writes writes_admitted
    same_writes w stuck levels =
        admitted-next s ok _
        ∙ ap (λ (next : Told). unless (ltb w (2 ^ k)) 7 (unless_at (first width (misplaced n stuck levels)) 8 0 next)) same
        ∙ sym (admitted-next t ok' _)
      where
        told : (d : First) → chosen s w d ≡ chosen t w d
        told (at d) = ap (λ (x : ℕ). answer (x ∷ d ∷ [])) (word_same n k l rows rows' e f w d)
        told nowhere = refl

        same : chosen s w (fitting s w stuck levels) ≡ chosen t w (fitting t w stuck levels)
        same =
            told (fitting s w stuck levels)
            ∙ ap (chosen t w) (first-same _ _ (2 ^ l) (λ d h. ap (fits stuck levels) (word_same n k l rows rows' e f w d)))

    -- the test of a read says the same
    code_same : (x : ℕ) → eqb (products (H s) x) 0 ≡ eqb (products (H t) x) 0
    code_same x =
        eqb_same (products (H s) x) 0 (products (H t) x) 0 (λ h. (code-to n k l rows rows' e f ok ok' x h).0)
        (λ h. (code-to n k l rows' rows (sym e) (sym f) ok' ok x h).0)

    -- a read is told alike
    pub same_reads : (y radius : ℕ) → reads s y radius ≡ reads t y radius
    unfolding reads reads_admitted nearest
    same_reads y radius =
        admitted-next s ok _
        ∙ ap (λ (next : Told). unless_at (first width (stray_cell n y)) 10 0 (unless (leb radius most_radius) 11 next)) (told (nearest s y radius) refl ∙ ap (heard t y) near)
        ∙ sym (admitted-next t ok' _)
      where
        near : nearest s y radius ≡ nearest t y radius
        near = search-same _ _ (λ z. code_same (y ⊕ z)) 0 (weights n 0 (radius + 1))

        told : (r : Search) → nearest s y radius ≡ r → heard s y r ≡ heard t y r
        told (found z tried) q =
            let h = (found_first _ n 0 (radius + 1) q).passes in
            ap (λ (m : ℕ). answer (m ∷ z ∷ tried ∷ [])) (sym (code-to n k l rows rows' e f ok ok' (y ⊕ z) (eqb-true _ 0 h)).1)
        told (missed tried) q = refl

    -- and so is a measurement of d0
    pub same-d0 : (cap : ℕ) → measures_d0 s cap ≡ measures_d0 t cap
    unfolding measures_d0 measures_admitted_d0 search_d0
    same-d0 cap =
        admitted-next s ok _
        ∙ ap (λ (r : Search). unless (capped cap) 11 (plate_d0 r))
        (search-same _ _ (λ z. ap (λ (os : List ℕ). eqb (products os z) 0) f) 0 (weights n 1 cap))
        ∙ sym (admitted-next t ok' _)

    -- and one of d1
    pub same-d1 : (cap : ℕ) → measures_d1 s cap ≡ measures_d1 t cap
    unfolding measures_d1 measures_admitted_d1 search_d1
    same-d1 cap =
        admitted-next s ok _
        ∙ ap (λ (r : Search). unless (capped cap) 11 (plate_d1 cap r)) (search-same _ _ same 0 (weights n 1 cap))
        ∙ sym (admitted-next t ok' _)
      where
        same : (z : ℕ) → (eqb (products (H s) z) 0 && not (eqb (products (M s) z) 0)) ≡ (eqb (products (H t) z) 0 && not (eqb (products (M t) z) 0))
        same z = go (ℕ_discrete (products (H s) z) 0)
          where
            go : Dec (products (H s) z ≡ 0) → (eqb (products (H s) z) 0 && not (eqb (products (M s) z) 0)) ≡ (eqb (products (H t) z) 0 && not (eqb (products (M t) z) 0))
            go (yes h) =
                ap₂ (λ (b : Bool) (m : ℕ). b && not (eqb m 0)) (code_same z) (sym (code-to n k l rows rows' e f ok ok' z h).1)
            go (no h) = rw (sym (code_same z), ne_eqb (products (H s) z) 0 h)
