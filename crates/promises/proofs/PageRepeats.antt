-- "Equal records count once": a record that stands again, anywhere later in the list, changes nothing but the places behind it,
-- which are "from 0 among this slot's records". For request 1's records. Assumes nothing.
use mathlib.Core.Path.{◌≡◌, refl, sym, ap, ap₂, ◌∙◌}
use mathlib.Core.Bool.{Bool, true, false, not, ◌&&◌, ◌||◌, true≢false}
use mathlib.Core.Logic.{◌⊎◌, inl, inr}
use mathlib.Core.List.{List, [], ◌∷◌, ◌++◌}
use Prim.Native.Nat.{ℕ, suc, ◌+◌, ◌-◌, ◌*◌, ◌^◌, ◌≤◌, ◌<◌}
use native.Mathlib.Decide.{ℕ_discrete, dec_lt}
use native.Mathlib.Omega.{arith}
use lib.Bits.{bit_or}
use lib.Dec.{eqb, leb}
use lib.ListN.{length, get_or, take, length-append, get_or-append}
use lib.Seq.{take-append-le, take-append_seam, take-append-add, get_or-append_seam, get_or-append-add}
use Rattle.paper.specs.First.{First, nowhere, at}
use Rattle.paper.specs.Refusals.{refusal}
use Rattle.paper.specs.Sheet.{Sheet, Admitted}
use Rattle.paper.specs.Writing.{writes}
use Rattle.paper.specs.Page.{most_slots, most_records, most_number, numbered, records_of, disagrees, breaks, no_record, first_broken, stuck_by, levels_by, paged, page_writes}
use Rattle.paper.specs.declared.StuckCell.{StuckCell}
use Rattle.words.proofs.Cells.{cell-or, ext-all}
use Rattle.records.proofs.Lists.{records-append, record-own, record-other, stuck-append, levels-append, disagrees-append}
use Rattle.rules.proofs.Both.{both, outside}
use Rattle.rules.proofs.Rules.{is_refusal, not-told}
use Rattle.sheet.proofs.Verdicts.{on-admitted}
use Rattle.promises.proofs.Tests.{fails}
use Rattle.promises.proofs.PageOrder.{page-write-16, page-write-13, page-write-14, page-write-15}
use Rattle.promises.proofs.PageDemands.{write-is-base}
use Rattle.promises.proofs.PageRecords.{disagrees-when, breaks-when, broken-at, broken-nowhere, none-disagrees}

-- ---- a record that stands again

-- what stands in both already adds nothing
or-again : (x r y z : ℕ) → bit_or (bit_or x (bit_or r y)) (bit_or r z) ≡ bit_or (bit_or x (bit_or r y)) z
or-again x r y z =
    ext-all (λ i.
    rw (cell-or (bit_or x (bit_or r y)) (bit_or r z) i, cell-or (bit_or x (bit_or r y)) z i, cell-or x (bit_or r y) i, cell-or r y i, cell-or r z i) (omega arith))

-- r stands in xs ++ r ∷ ys, and again behind it

module _ (xs ys : List StuckCell) (r : StuckCell) where
  abbrev head : List StuckCell
  head = xs ++ r ∷ ys

  pub stuck-again : (zs : List StuckCell) → stuck_by ((xs ++ r ∷ ys) ++ r ∷ zs) ≡ stuck_by ((xs ++ r ∷ ys) ++ zs)
  stuck-again zs =
      stuck-append head (r ∷ zs) ∙ ap (λ (v : ℕ). bit_or v (stuck_by (r ∷ zs))) (stuck-append xs (r ∷ ys)) ∙ or-again (stuck_by xs) (2 ^ r.cell) (stuck_by ys) (stuck_by zs)
      ∙ sym (stuck-append head zs ∙ ap (λ (v : ℕ). bit_or v (stuck_by zs)) (stuck-append xs (r ∷ ys)))

  pub levels-again : (zs : List StuckCell) → levels_by ((xs ++ r ∷ ys) ++ r ∷ zs) ≡ levels_by ((xs ++ r ∷ ys) ++ zs)
  levels-again zs =
      levels-append head (r ∷ zs) ∙ ap (λ (v : ℕ). bit_or v (levels_by (r ∷ zs))) (levels-append xs (r ∷ ys))
      ∙ or-again (levels_by xs) (r.level * 2 ^ r.cell) (levels_by ys) (levels_by zs)
      ∙ sym (levels-append head zs ∙ ap (λ (v : ℕ). bit_or v (levels_by zs)) (levels-append xs (r ∷ ys)))

  -- who disagrees with it disagrees already
  disagrees-again : (zs : List StuckCell) (c : StuckCell) → disagrees (head ++ r ∷ zs) c ≡ disagrees (head ++ zs) c
  disagrees-again zs c =
      disagrees-append head (r ∷ zs) c ∙ ap (λ (b : Bool). b || disagrees (r ∷ zs) c) (disagrees-append xs (r ∷ ys) c)
      ∙ absorbs (disagrees xs c) (eqb r.cell c.cell && not (eqb r.level c.level)) (disagrees ys c) (disagrees zs c)
      ∙ sym (disagrees-append head zs c ∙ ap (λ (b : Bool). b || disagrees zs c) (disagrees-append xs (r ∷ ys) c))
    where
      absorbs : (x b y z : Bool) → ((x || (b || y)) || (b || z)) ≡ ((x || (b || y)) || z)
      absorbs true b y z = refl
      absorbs false true y z = refl
      absorbs false false y z = refl

  module _ (n : ℕ) where
    -- whether the record at a place breaks the rule
    abbrev broken : List StuckCell → ℕ → Bool
    broken rs i = breaks n (take i rs) (get_or rs i no_record)

    -- in front of the place where it stands again, at it, and behind it
    in-front : (zs : List StuckCell) (i : ℕ) → i < length head → broken (head ++ zs) i ≡ broken head i
    in-front zs i l = ap₂ (breaks n) (take-append-le i head zs (omega arith)) (get_or-append head zs no_record i l)

    there : (zs : List StuckCell) → broken (head ++ r ∷ zs) (length head) ≡ breaks n head r
    there zs = ap₂ (breaks n) (take-append_seam head (r ∷ zs)) (get_or-append_seam head r zs no_record)

    behind : (zs : List StuckCell) (i : ℕ) → broken (head ++ r ∷ zs) (length head + suc i) ≡ broken (head ++ zs) (length head + i)
    behind zs i =
        ap₂ (breaks n) (take-append-add head (r ∷ zs) (suc i)) (get_or-append-add head (r ∷ zs) (suc i) no_record)
        ∙ ap (λ (b : Bool). leb n c.cell || (leb 2 c.level || b)) (disagrees-again (take i zs) c)
        ∙ sym (ap₂ (breaks n) (take-append-add head zs i) (get_or-append-add head zs i no_record))
      where
        c : StuckCell
        c = get_or zs i no_record

    -- where none of the records so far breaks the rule, neither does it
    none-there : ((j : ℕ) → j < length head → broken head j ≡ false) → breaks n head r ≡ false
    none-there none = fails (breaks n head r) (λ e. go ((breaks-when n head r).0 e))
      where
        own : length xs < length head
        own = omega (arith, length-append xs (r ∷ ys))

        clashes : breaks n xs r ≡ true → ⊥
        clashes e = true≢false (sym e ∙ sym (ap₂ (breaks n) (take-append_seam xs (r ∷ ys)) (get_or-append_seam xs r ys no_record)) ∙ none (length xs) own)

        quiet : disagrees head r ≡ false
        quiet = ap (disagrees head) (sym (get_or-append_seam xs r ys no_record)) ∙ none-disagrees n head none (length xs) own

        go : (n ≤ r.cell) ⊎ ((2 ≤ r.level) ⊎ ((j : ℕ) × (j < length head) × ((get_or head j no_record).cell ≡ r.cell) × ((get_or head j no_record).level ≡ r.level → ⊥))) → ⊥
        go (inl h) = clashes ((breaks-when n xs r).1 (inl h))
        go (inr (inl h)) = clashes ((breaks-when n xs r).1 (inr (inl h)))
        go (inr (inr p)) = true≢false (sym ((disagrees-when head r).1 p) ∙ quiet)

    -- none broken below b, behind head: none below b + 1 where it stands again
    none-again : (zs : List StuckCell) (b : ℕ) → length head ≤ b → ((j : ℕ) → j < b → broken (head ++ zs) j ≡ false)
        → (j : ℕ) → j < suc b → broken (head ++ r ∷ zs) j ≡ false
    none-again zs b l none j k = go (dec_lt j (length head)) (dec_lt (length head) j)
      where
        go : Dec (j < length head) → Dec (length head < j) → broken (head ++ r ∷ zs) j ≡ false
        go (yes p) q = in-front (r ∷ zs) j p ∙ sym (in-front zs j p) ∙ none j (omega arith)
        go (no p) (yes q) =
            let e : j ≡ length head + suc (j - suc (length head)) = omega arith in
            ap (broken (head ++ r ∷ zs)) e ∙ behind zs (j - suc (length head)) ∙ none (length head + (j - suc (length head))) (omega arith)
        go (no p) (no q) =
            let e : j ≡ length head = omega arith in
            ap (broken (head ++ r ∷ zs)) e ∙ there zs ∙ none-there (λ i h. sym (in-front zs i h) ∙ none i (omega arith))

    module _ (zs : List StuckCell) where
      -- records that break no rule break none with it
      pub nowhere-again : first_broken n ((xs ++ r ∷ ys) ++ zs) ≡ nowhere → first_broken n ((xs ++ r ∷ ys) ++ r ∷ zs) ≡ nowhere
      nowhere-again e =
          (broken-nowhere n (head ++ r ∷ zs)).1 (λ j l.
          none-again zs (length (head ++ zs)) (omega (arith, length-append head zs)) ((broken-nowhere n (head ++ zs)).0 e) j
          (omega (arith, length-append head zs, length-append head (r ∷ zs))))

      -- a place in front of it stays
      pub front-again : (i : ℕ) → first_broken n ((xs ++ r ∷ ys) ++ zs) ≡ at i → i < length (xs ++ r ∷ ys) → first_broken n ((xs ++ r ∷ ys) ++ r ∷ zs) ≡ at i
      front-again i e l =
          let p = (broken-at n (head ++ zs) i).0 e in
          let same : (j : ℕ) → j < length head → broken (head ++ r ∷ zs) j ≡ broken (head ++ zs) j = λ j h. in-front (r ∷ zs) j h ∙ sym (in-front zs j h) in
          (broken-at n (head ++ r ∷ zs) i).1 (omega (arith, length-append head (r ∷ zs)), same i l ∙ p.1, λ j h. same j (omega arith) ∙ p.2 j h)

      -- and one behind it is one further
      pub behind-again : (i : ℕ) → first_broken n ((xs ++ r ∷ ys) ++ zs) ≡ at i → length (xs ++ r ∷ ys) ≤ i → first_broken n ((xs ++ r ∷ ys) ++ r ∷ zs) ≡ at (i + 1)
      behind-again i e l =
          let p = (broken-at n (head ++ zs) i).0 e in
          let k : length head + suc (i - length head) ≡ i + 1 = omega arith in
          let k' : length head + (i - length head) ≡ i = omega arith in
          (broken-at n (head ++ r ∷ zs) (i + 1)).1 (
            omega (arith, p.0, length-append head zs, length-append head (r ∷ zs)),
            ap (broken (head ++ r ∷ zs)) (sym k) ∙ behind zs (i - length head) ∙ ap (broken (head ++ zs)) k' ∙ p.1,
            λ j h. none-again zs i l p.2 j (omega arith),
          )

-- ---- on a page, other slots' records between

module _ (slot : ℕ) (xs ys zs : List StuckCell) (r : StuckCell) where
  -- this slot's records, where r is one of them, with it once more or not
  own-parts : r.slot ≡ slot → (us : List StuckCell)
      → records_of slot ((xs ++ r ∷ ys) ++ us) ≡ (records_of slot xs ++ r ∷ records_of slot ys) ++ records_of slot us
  own-parts e us =
      records-append slot (xs ++ r ∷ ys) us
      ∙ ap (λ (v : List StuckCell). v ++ records_of slot us)
      (records-append slot xs (r ∷ ys) ∙ ap (λ (v : List StuckCell). records_of slot xs ++ v) (record-own slot r ys e))

  own-again : r.slot ≡ slot
      → records_of slot ((xs ++ r ∷ ys) ++ r ∷ zs) ≡ (records_of slot xs ++ r ∷ records_of slot ys) ++ r ∷ records_of slot zs
  own-again e = own-parts e (r ∷ zs) ∙ ap (λ (v : List StuckCell). (records_of slot xs ++ r ∷ records_of slot ys) ++ v) (record-own slot r zs e)

  -- a record of another slot is none of them
  other-again : (r.slot ≡ slot → ⊥) → records_of slot ((xs ++ r ∷ ys) ++ r ∷ zs) ≡ records_of slot ((xs ++ r ∷ ys) ++ zs)
  other-again ne =
      records-append slot (xs ++ r ∷ ys) (r ∷ zs)
      ∙ ap (λ (v : List StuckCell). records_of slot (xs ++ r ∷ ys) ++ v) (record-other slot r zs ne) ∙ sym (records-append slot (xs ++ r ∷ ys) zs)

  -- what this slot's records gather to, if they break no rule
  gathered-again : (n : ℕ) → Dec (r.slot ≡ slot) → first_broken n (records_of slot ((xs ++ r ∷ ys) ++ zs)) ≡ nowhere
      → (first_broken n (records_of slot ((xs ++ r ∷ ys) ++ r ∷ zs)) ≡ nowhere)
      × (stuck_by (records_of slot ((xs ++ r ∷ ys) ++ r ∷ zs)) ≡ stuck_by (records_of slot ((xs ++ r ∷ ys) ++ zs)))
      × (levels_by (records_of slot ((xs ++ r ∷ ys) ++ r ∷ zs)) ≡ levels_by (records_of slot ((xs ++ r ∷ ys) ++ zs)))
  gathered-again n (no ne) e = let q = other-again ne in (ap (first_broken n) q ∙ e, ap stuck_by q, ap levels_by q)
  gathered-again n (yes o) e =
      let once = own-parts o zs in
      let again = own-again o in
      let us : List StuckCell = records_of slot xs in
      let vs : List StuckCell = records_of slot ys in
      let ws : List StuckCell = records_of slot zs in (
        ap (first_broken n) again ∙ nowhere-again us vs r n ws (ap (first_broken n) (sym once) ∙ e),
        ap stuck_by again ∙ stuck-again us vs r ws ∙ ap stuck_by (sym once),
        ap levels_by again ∙ levels-again us vs r ws ∙ ap levels_by (sym once),
      )

module _ (s : Sheet) (number : ℕ) (page : List ℕ) (slot w : ℕ) where
  module _ (xs ys zs : List StuckCell) (r : StuckCell) where
    abbrev once : List StuckCell
    once = (xs ++ r ∷ ys) ++ zs

    abbrev again : List StuckCell
    again = (xs ++ r ∷ ys) ++ r ∷ zs

    longer : length again ≡ suc (length once)
    longer = omega (arith, length-append (xs ++ r ∷ ys) (r ∷ zs), length-append (xs ++ r ∷ ys) zs)

    -- "Equal records count once": with a record that stands again, and without, a page write tells the same, unless 13 is told with it or 15 without it
    pub repeated-once : is_refusal 13 (page_writes s number page ((xs ++ r ∷ ys) ++ r ∷ zs) slot w) ≡ false
        → is_refusal 15 (page_writes s number page ((xs ++ r ∷ ys) ++ zs) slot w) ≡ false
        → page_writes s number page ((xs ++ r ∷ ys) ++ r ∷ zs) slot w ≡ page_writes s number page ((xs ++ r ∷ ys) ++ zs) slot w
    unfolding page_writes paged
    repeated-once h13 h15 = on-admitted s _ _ (λ ok. numbers ok (numbered number) refl)
      where
        Good : Type 0
        Good = Admitted s × ((1 ≤ number) × (number ≤ most_number))

        written : Good → length page ≤ most_slots → length again ≤ most_records → slot < length page
            → (f : First) → first_broken s.n (records_of slot once) ≡ f → page_writes s number page again slot w ≡ page_writes s number page once slot w
        written good slots list here (at i) e =
            not-told (sym ((page-write-15 s number page once slot w i).1 (good.0, good.1, (slots, omega (arith, longer)), (here, e)))) h15
        written good slots list here nowhere e =
            let q = gathered-again slot xs ys zs r s.n (ℕ_discrete r.slot slot) e in
            write-is-base s number page again slot w good.1 slots list here q.0 ∙ ap₂ (writes s w) q.1 q.2
            ∙ sym (write-is-base s number page once slot w good.1 slots (omega (arith, longer)) here e)

        slotted : Good → length page ≤ most_slots → length again ≤ most_records → Dec (slot < length page)
            → page_writes s number page again slot w ≡ page_writes s number page once slot w
        slotted good slots list (yes here) = written good slots list here (first_broken s.n (records_of slot once)) refl
        slotted good slots list (no out) =
            (page-write-14 s number page again slot w).1 (good.0, good.1, (slots, list), omega arith)
            ∙ sym ((page-write-14 s number page once slot w).1 (good.0, good.1, (slots, omega (arith, longer)), omega arith))

        few : Good → Dec (most_slots < length page) → Dec (most_records < length again) → page_writes s number page again slot w ≡ page_writes s number page once slot w
        few good (yes p) q = not-told (sym ((page-write-13 s number page again slot w).1 (good.0, good.1, inr p))) h13
        few good (no p) (yes q) = not-told (sym ((page-write-13 s number page again slot w).1 (good.0, good.1, inl q))) h13
        few good (no p) (no q) = slotted good (omega arith) (omega arith) (dec_lt slot (length page))

        numbers : Admitted s → (b : Bool) → numbered number ≡ b → page_writes s number page again slot w ≡ page_writes s number page once slot w
        numbers ok true e = few (ok, (both 1 number number most_number).0 e) (dec_lt most_slots (length page)) (dec_lt most_records (length again))
        numbers ok false e =
            let out = (outside most_number number).0 e in
            (page-write-16 s number page again slot w).1 (ok, out) ∙ sym ((page-write-16 s number page once slot w).1 (ok, out))

    -- where 15 is told without it, 15 is told with it: the place is "among this slot's records", and so one further behind it
    module _ (own : r.slot ≡ slot) (i : ℕ) (list : length ((xs ++ r ∷ ys) ++ r ∷ zs) ≤ most_records)
        (told : page_writes s number page ((xs ++ r ∷ ys) ++ zs) slot w ≡ refusal 15 (i ∷ [])) where
      -- this slot's records up to where it stands again, and those behind
      abbrev us : List StuckCell
      us = records_of slot xs ++ r ∷ records_of slot ys

      abbrev vs : List StuckCell
      vs = records_of slot zs

      count : length (records_of slot (xs ++ r ∷ ys)) ≡ length us
      count =
          ap (λ (v : List StuckCell). length v)
          (records-append slot xs (r ∷ ys) ∙ ap (λ (v : List StuckCell). records_of slot xs ++ v) (record-own slot r ys own))

      without : first_broken s.n (us ++ vs) ≡ at i
      without = ap (first_broken s.n) (sym (own-parts slot xs ys zs r own zs)) ∙ ((page-write-15 s number page once slot w i).0 told).3.1

      with : (j : ℕ) → first_broken s.n (us ++ r ∷ vs) ≡ at j → page_writes s number page again slot w ≡ refusal 15 (j ∷ [])
      with j e =
          let p = (page-write-15 s number page once slot w i).0 told in
          (page-write-15 s number page again slot w j).1 (p.0, p.1, (p.2.0, list), (p.3.0, ap (first_broken s.n) (own-again slot xs ys zs r own) ∙ e))

      pub repeated-front : i < length (records_of slot (xs ++ r ∷ ys)) → page_writes s number page ((xs ++ r ∷ ys) ++ r ∷ zs) slot w ≡ refusal 15 (i ∷ [])
      repeated-front l = with i (front-again (records_of slot xs) (records_of slot ys) r s.n vs i without (omega (arith, count)))

      pub repeated-behind : length (records_of slot (xs ++ r ∷ ys)) ≤ i → page_writes s number page ((xs ++ r ∷ ys) ++ r ∷ zs) slot w ≡ refusal 15 ((i + 1) ∷ [])
      repeated-behind l = with (i + 1) (behind-again (records_of slot xs) (records_of slot ys) r s.n vs i without (omega (arith, count)))
