-- "Useless builds to be tried against the contracts": no function that tells what its call's definition tells is one of them.
-- Each is shut out by the theorem that document 01 names for it; "tried" and "more than the cap" by what a measurement says of them (Plate).
-- A build answers as such a function does wherever its contract speaks. Assumes nothing.
use mathlib.Core.Path.{◌≡◌, refl, sym, ap, ◌∙◌}
use mathlib.Core.List.{List, [], ◌∷◌}
use Prim.Native.Nat.{ℕ, ◌+◌, ◌^◌, ◌≤◌, ◌<◌}
use native.Mathlib.Decide.{dec_lt}
use native.Mathlib.Omega.{arith}
use lib.Count.{ones}
use lib.ListN.{length}
use lib.Pow.{pow_pos, pow-lt}
use Rattle.paper.specs.First.{first}
use Rattle.paper.specs.Listing.{listed, weights, search}
use Rattle.paper.specs.Words.{products, sum, ◌⊕◌}
use Rattle.paper.specs.Refusals.{Told, answer, refusal, refused, written, reading, measured_d0, measured_d1}
use Rattle.paper.specs.Sheet.{Sheet, M, Admitted, judged_sums, judged_rows, judged, Codeword}
use Rattle.paper.specs.Writing.{word_of, writes_admitted, writes}
use Rattle.paper.specs.Reading.{reads}
use Rattle.paper.specs.Plate.{Masked, Hidden, search_d0, search_d1, D0, D1, printed, printed_beyond, measures_admitted_d0, measures_admitted_d1, measures_d0, measures_d1}
use Rattle.paper.specs.Promised.{Stuck, Placed}
use Rattle.paper.specs.declared.Refusal.{Refusal}
use Rattle.paper.specs.declared.Written.{Written}
use Rattle.paper.specs.declared.Reading.{Reading}
use Rattle.paper.specs.declared.MeasuredD0.{MeasuredD0}
use Rattle.paper.specs.declared.MeasuredD1.{MeasuredD1}
use Rattle.words.proofs.Sums.{ones-zero}
use Rattle.sheet.proofs.Verdicts.{sound}
use Rattle.promises.proofs.Pinned.{write-pinned, read-pinned}
use Rattle.promises.proofs.Bench.{kitchen, attic}
use Rattle.promises.proofs.Writing.{written-fits, writes-free}
use Rattle.promises.proofs.Reading.{read_first}
use Rattle.promises.proofs.Places.{placed-once}
use Rattle.promises.proofs.Plate.{beyond-least, d1-exists, d1-some, answered-d0, answered-d1, more-d0, more-d1}
use Rattle.promises.proofs.Demand3.{d0-fits, d0-tight, d1-reads-back, d1-apart, d1-tight}
use Rattle.promises.proofs.Box.{measured-admitted-d0, measured-fits, measured-refuses, measured-apart, measured-two}

-- an answer is no refusal
answered : (why : Refusal) {values : List ℕ} → refused why ≡ answer values → ⊥
answered why e = let z : ◌≡◌ {A = ℕ} 0 1 = cc in omega arith

-- the same of what is told
told-answered : {t : Told} {number : ℕ} {given values : List ℕ} → t ≡ refusal number given → t ≡ answer values → ⊥
told-answered p q = let z : ◌≡◌ {A = ℕ} 0 1 = cc in omega arith

-- every sheet has the messages 0 and 1
one : (s : Sheet) → Admitted s → 1 < 2 ^ s.k
one s ok = pow-lt (sound s ok).shape.some-message

-- every message is read from some word at radius 0
readable : (s : Sheet) (ok : Admitted s) (w : ℕ) → w < 2 ^ s.k → (y : ℕ) × (z : ℕ) × (tried : ℕ) × (reads s y 0 ≡ answer (w ∷ z ∷ tried ∷ []))
readable s ok w l =
    let d = d1-exists s ok in
    let r = d1-reads-back s ok w 0 0 (word_of s w 0) 0 (writes-free s w ok l) 0 0 (pow_pos s.n) (omega (arith, ones-zero)) (omega arith) d.0 d.1
    (omega (arith, d1-some s d.1)) in
    (word_of s w 0 ⊕ 0, r.0, r.1, r.2)

module _ (f : Sheet → ℕ → ℕ → ℕ → Written) (meets : (s : Sheet) (w stuck levels : ℕ) → written (f s w stuck levels) ≡ writes s w stuck levels) where
  -- "refusing every write": not even one with fewer than d0 cells stuck
  pub never-refuses : (s : Sheet) → Admitted s → (w stuck levels : ℕ) → w < 2 ^ s.k → Stuck s stuck levels → (d0 : ℕ) → D0 s d0 → ones stuck < d0
      → (why : Refusal) → f s w stuck levels ≡ Written.Refused why → ⊥
  never-refuses s ok w stuck levels l h d0 D few why e =
      answered why (sym (ap written e) ∙ meets s w stuck levels ∙ (d0-fits s ok w l stuck levels h d0 D few).2)

  -- "one fixed word": on no sheet
  pub no-fixed-word : (s : Sheet) → Admitted s → (x : ℕ) → ((w stuck levels x' d : ℕ) → f s w stuck levels ≡ Written.Word x' d → x' ≡ x) → ⊥
  no-fixed-word s ok x fixed =
      omega (arith, sym (message 0 (pow_pos s.k)) ∙ ap (products (M s)) (given 0 (pow_pos s.k) ∙ sym (given 1 (one s ok))) ∙ message 1 (one s ok))
    where
      given : (w : ℕ) → w < 2 ^ s.k → word_of s w 0 ≡ x
      given w l = fixed w 0 0 (word_of s w 0) 0 (write-pinned s w 0 0 (f s w 0 0) (Written.Word (word_of s w 0) 0) (meets s w 0 0) (sym (writes-free s w ok l)))

      message : (w : ℕ) → w < 2 ^ s.k → products (M s) (word_of s w 0) ≡ w
      message w l = (written-fits s w 0 0 (word_of s w 0) 0 (writes-free s w ok l)).word.message

  -- "handing the message through as the word": not on the kitchen sheet
  pub not-handed : ((w stuck levels x d : ℕ) → f kitchen w stuck levels ≡ Written.Word x d → x ≡ w) → ⊥
  unfolding writes writes_admitted judged judged_rows judged_sums first products sum ◌⊕◌ ones
  not-handed through =
      omega (arith, through 5 0 0 85 0 (write-pinned kitchen 5 0 0 (f kitchen 5 0 0) (Written.Word 85 0) (meets kitchen 5 0 0) refl))

module _ (f : Sheet → ℕ → ℕ → Reading) (meets : (s : Sheet) (y t : ℕ) → reading (f s y t) ≡ reads s y t) where
  -- "refusing every .. read": on no sheet
  pub reads-some : (s : Sheet) → Admitted s → ((y t : ℕ) → (why : Refusal) × (f s y t ≡ Reading.Refused why)) → ⊥
  reads-some s ok all =
      let r = readable s ok 0 (pow_pos s.k) in
      let q = all r.0 0 in
      answered q.0 (sym (ap reading q.1) ∙ meets s r.0 0 ∙ r.3)

  -- "one fixed .. message": on no sheet
  pub no-fixed-message : (s : Sheet) → Admitted s → (m : ℕ) → ((y t m' z tried : ℕ) → f s y t ≡ Reading.Message m' z tried → m' ≡ m) → ⊥
  no-fixed-message s ok m fixed = omega (arith, given 0 (pow_pos s.k), given 1 (one s ok))
    where
      given : (w : ℕ) → w < 2 ^ s.k → w ≡ m
      given w l =
          let r = readable s ok w l in
          fixed r.0 0 w r.1 r.2 (read-pinned s r.0 0 (f s r.0 0) (Reading.Message w r.1 r.2) (meets s r.0 0) (sym r.3))

  -- "an invented "tried"": there is one place
  pub tried-read : (s : Sheet) (y t m z tried : ℕ) → y < 2 ^ s.n → f s y t ≡ Reading.Message m z tried
      → (z' place : ℕ) → Placed (λ u. Codeword s (y ⊕ u)) (weights s.n 0 (t + 1)) z' place → tried ≡ place
  tried-read s y t m z tried l e z' place p = placed-once (read_first s y l t m z tried (sym (meets s y t) ∙ ap reading e)).place p

module _ (f : Sheet → ℕ → MeasuredD0) (meets : (s : Sheet) (cap : ℕ) → measured_d0 (f s cap) ≡ measures_d0 s cap) where
  module _ (s : Sheet) (cap tried d0 : ℕ) (D : D0 s d0) where
    module _ (d : ℕ) (e : f s cap ≡ MeasuredD0.Distance d tried) where
      told-d0 : measures_d0 s cap ≡ answer (d ∷ tried ∷ [])
      told-d0 = sym (meets s cap) ∙ ap measured_d0 e

      ok-d0 : Admitted s
      ok-d0 = measured-admitted-d0 s cap d tried told-d0

      -- "a timid d0: by the d0 stuck cells that are refused"
      pub not-timid-d0 : d0 ≤ d
      not-timid-d0 = go (dec_lt d d0)
        where
          go : Dec (d < d0) → d0 ≤ d
          go (no n) = omega arith
          go (yes l) =
              let r = measured-refuses s cap d tried told-d0 0 (pow_pos s.k) in
              absurd (told-answered r.4 (d0-fits s ok-d0 0 (pow_pos s.k) r.0 r.1 r.2 d0 D (omega (arith, r.3))).2)

      -- "a boastful one: by demand 3's first half"
      pub not-boastful-d0 : d ≤ d0
      not-boastful-d0 = go (dec_lt d0 d)
        where
          go : Dec (d0 < d) → d ≤ d0
          go (no n) = omega arith
          go (yes l) =
              let r = d0-tight s ok-d0 0 (pow_pos s.k) d0 D in
              absurd (told-answered r.4 (measured-fits s cap d tried told-d0 0 r.0 r.1 (pow_pos s.k) r.2 (omega (arith, r.3))).2)

      -- no "invented "tried"": "by the place in the list"
      pub tried-d0 : (z place : ℕ) → Placed (Masked s) (weights s.n 1 cap) z place → tried ≡ place
      tried-d0 z place p = placed-once (answered-d0 s cap d tried told-d0).place p

    -- ""more than the cap": by the exact condition for that answer", all of the list having been tried
    pub true-more-d0 : f s cap ≡ MeasuredD0.More tried → (cap < d0) × (tried ≡ length (weights s.n 1 cap))
    true-more-d0 e = let b = more-d0 s cap tried (sym (meets s cap) ∙ ap measured_d0 e) in (beyond-least b D, b.whole)

  -- "a plate that always says "more than the cap"": not of the attic sheet
  pub not-always-more-d0 : ((cap : ℕ) → (tried : ℕ) × (f attic cap ≡ MeasuredD0.More tried)) → ⊥
  unfolding measures_d0 measures_admitted_d0 search_d0 judged judged_rows judged_sums first weights listed search products sum ◌⊕◌ ones
  not-always-more-d0 all =
      let p : measured_d0 (f attic 8) ≡ answer (3 ∷ 7 ∷ []) = meets attic 8 in
      let q = ap measured_d0 (all 8).1 in
      let z : ◌≡◌ {A = ℕ} 0 1 = cc in omega arith

module _ (f : Sheet → ℕ → MeasuredD1) (meets : (s : Sheet) (cap : ℕ) → measured_d1 (f s cap) ≡ measures_d1 s cap) where
  module _ (s : Sheet) (cap tried radius d1 : ℕ) (D : D1 s d1) where
    module _ (d : ℕ) (e : f s cap ≡ MeasuredD1.Distance d tried radius) where
      told-d1 : measures_d1 s cap ≡ answer (d ∷ tried ∷ radius ∷ [])
      told-d1 = sym (meets s cap) ∙ ap measured_d1 e

      -- "a timid or boastful d1, by one included: by the two codewords exactly d1 apart and none nearer"
      pub not-timid-d1 : d1 ≤ d
      not-timid-d1 =
          let r = measured-two s cap d tried radius told-d1 in omega (arith, d1-apart s d1 D r.0 r.1 r.2 r.3 r.4, r.5)

      pub not-boastful-d1 : d ≤ d1
      not-boastful-d1 =
          let r = d1-tight s d1 D in omega (arith, measured-apart s cap d tried radius told-d1 r.0 r.1 r.2 r.3 r.4, r.5)

      -- the place, and the radius to print
      pub tried-d1 : (z place : ℕ) → Placed (Hidden s) (weights s.n 1 cap) z place → tried ≡ place
      tried-d1 z place p = placed-once (answered-d1 s cap d tried radius told-d1).0.place p

      pub true-radius : radius ≡ printed d
      true-radius = (answered-d1 s cap d tried radius told-d1).1

    pub true-more-d1 : f s cap ≡ MeasuredD1.More tried radius → (cap < d1) × (tried ≡ length (weights s.n 1 cap)) × (radius ≡ printed_beyond cap)
    true-more-d1 e = let b = more-d1 s cap tried radius (sym (meets s cap) ∙ ap measured_d1 e) in (beyond-least b.0 D, b.0.whole, b.1)

  pub not-always-more-d1 : ((cap : ℕ) → (tried : ℕ) × (radius : ℕ) × (f attic cap ≡ MeasuredD1.More tried radius)) → ⊥
  unfolding measures_d1 measures_admitted_d1 search_d1 judged judged_rows judged_sums first weights listed search products sum ◌⊕◌ ones
  not-always-more-d1 all =
      let p : measured_d1 (f attic 8) ≡ answer (1 ∷ 1 ∷ 0 ∷ []) = meets attic 8 in
      let q = ap measured_d1 (all 8).2 in
      let z : ◌≡◌ {A = ℕ} 0 1 = cc in omega arith
