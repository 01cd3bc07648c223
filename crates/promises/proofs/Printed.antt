-- Document 02, request 3: the printed radius can be followed blindly, and it is not modest.
-- By demand 3 and the definition of the radius, for every sheet and cap that a measurement of d1 answers. Assumes nothing.
use mathlib.Core.Path.{◌≡◌, refl, sym, subst}
use mathlib.Core.List.{[], ◌∷◌}
use Prim.Native.Nat.{ℕ, ◌+◌, ◌*◌, ◌^◌, ◌≤◌, ◌<◌}
use native.Mathlib.Decide.{dec_le}
use native.Mathlib.Omega.{arith}
use Rattle.paper.specs.Words.{weight, ◌⊕◌}
use Rattle.paper.specs.Refusals.{answer, more}
use Rattle.paper.specs.Sheet.{Sheet, Admitted}
use Rattle.paper.specs.Writing.{writes}
use Rattle.paper.specs.Reading.{most_radius, reads}
use Rattle.paper.specs.Plate.{Hidden, D1, most_cap, measures_d1}
use Rattle.paper.specs.Promised.{Printed, by-d1, by-cap, held}
use Rattle.promises.proofs.Answers.{measure-d1-told}
use Rattle.promises.proofs.Writing.{written-fits}
use Rattle.promises.proofs.Reading.{disturbed-read}
use Rattle.promises.proofs.Plate.{d1-exists, d1-some, answered-d1, more-d1, measured-d1}
use Rattle.promises.proofs.Demand3.{reads-back}
use Rattle.promises.proofs.Box.{measured-admitted-d1, measured-is-d1, measured-misread}

-- every admitted sheet has a printed radius, whatever cap of 1 to 8 it is measured with
pub printed-exists : (s : Sheet) → Admitted s → (cap : ℕ) → 1 ≤ cap → cap ≤ most_cap → (d : ℕ) × (radius : ℕ) × Printed s cap d radius
printed-exists s ok cap from to = go (dec_le (d1-exists s ok).0 cap)
  where
    go : Dec ((d1-exists s ok).0 ≤ cap) → (d : ℕ) × (radius : ℕ) × Printed s cap d radius
    go (yes l) = let m = (measured-d1 s cap ok from to _ (d1-exists s ok).1).0 l in (_, _, by-d1 m.0 m.1)
    go (no l) = let m = (measured-d1 s cap ok from to _ (d1-exists s ok).1).1 (omega arith) in (cap + 1, _, by-cap m.0 m.1 refl)

-- where d1 was found it is at most the cap, and so one more than what is printed is still a radius
next-permitted : (s : Sheet) (cap d tried radius : ℕ) → measures_d1 s cap ≡ answer (d ∷ tried ∷ radius ∷ []) → radius + 1 ≤ most_radius
next-permitted s cap d tried radius e =
    let m = answered-d1 s cap d tried radius e in
    omega (arith, m.1, m.0.within, ((measure-d1-told s cap (answer (d ∷ tried ∷ radius ∷ [])) refl refl).0 e).1)

module _ (s : Sheet) (cap d radius : ℕ) where
  -- what a printed radius says: of an admitted sheet, d is no more than d1, and the radius is permitted and its double below d
  record Safe : Type 0 where
    pub ok : Admitted s
    pub far : (c : ℕ) → Hidden s c → d ≤ weight c
    pub permitted : radius ≤ most_radius
    pub near : 2 * radius < d

  safe : Printed s cap d radius → Safe
  safe (by-d1 tried e) =
      let D = measured-is-d1 s cap d tried radius e in
      record {
        ok = measured-admitted-d1 s cap d tried radius e;
        far = D.none-lighter;
        permitted = omega (arith, next-permitted s cap d tried radius e);
        near = omega (arith, (answered-d1 s cap d tried radius e).1, d1-some s D);
      }
  safe (by-cap tried e q) =
      let told = (measure-d1-told s cap (more (tried ∷ radius ∷ [])) refl refl).0 e in
      let m = more-d1 s cap tried radius e in
      record {
        ok = told.0;
        far = subst (λ (v : ℕ). (c : ℕ) → Hidden s c → v ≤ weight c) (sym q) m.0.far;
        permitted = omega (arith, m.1, told.1);
        near = omega (arith, m.1, q);
      }

  module _ (p : Printed s cap d radius) where
    -- "the printed radius, held to 4, always meets demand 3's premise": t up to 4, with 2t below d1 or below the cap plus 1
    pub premise-met : (held radius ≤ most_radius) × (2 * held radius < d)
    premise-met = (omega arith, omega (arith, (safe p).near))

    -- and so below the defined d1, whether it was found or is more than the cap
    pub premise-of-d1 : (d1 : ℕ) → D1 s d1 → 2 * held radius < d1
    premise-of-d1 d1 D = omega (arith, premise-met.1, (safe p).far D.word D.has, D.weighs)

    -- with a cap of at most 8, nothing that is printed is above 4: holding it to 4 takes nothing away
    pub held_whole : held radius ≡ radius
    held_whole = omega (arith, (safe p).permitted)

    -- so "what was written, then disturbed in at most t cells, reads back at radius t", for the printed t
    pub printed-reads-back : (w stuck levels x choice : ℕ) → writes s w stuck levels ≡ answer (x ∷ choice ∷ [])
        → (noise : ℕ) → noise < 2 ^ s.n → weight noise ≤ held radius
        → (z : ℕ) × (tried : ℕ) × (reads s (x ⊕ noise) (held radius) ≡ answer (w ∷ z ∷ tried ∷ []))
    printed-reads-back w stuck levels x choice written noise low few =
        reads-back s d (safe p).far (safe p).ok w stuck levels x choice written noise (held radius) low few premise-met.0 premise-met.1

-- it is not modest: where d1 was found, every message's word, written with nothing stuck, can be disturbed in one cell more than is printed so that
-- no radius reads that message back, and the next radius reads out another
module _ (s : Sheet) (cap d tried radius : ℕ) (e : measures_d1 s cap ≡ answer (d ∷ tried ∷ radius ∷ [])) where
  pub next-misread : (w : ℕ) → w < 2 ^ s.k
      → (x : ℕ) × (choice : ℕ) × (writes s w 0 0 ≡ answer (x ∷ choice ∷ []))
      × (noise : ℕ) × (noise < 2 ^ s.n) × (weight noise ≡ radius + 1)
      × ((t m z tried : ℕ) → reads s (x ⊕ noise) t ≡ answer (m ∷ z ∷ tried ∷ []) → m ≡ w → ⊥)
      × (m : ℕ) × (z : ℕ) × (tried : ℕ) × (reads s (x ⊕ noise) (radius + 1) ≡ answer (m ∷ z ∷ tried ∷ []))
  next-misread w message =
      let f = measured-misread s cap d tried radius e w message in
      let x : ℕ = f.0 in
      let noise : ℕ = f.3 in
      let heavy : weight noise ≡ radius + 1 =
      omega (arith, f.5, (answered-d1 s cap d tried radius e).1, d1-some s (measured-is-d1 s cap d tried radius e)) in
      let r =
      disturbed-read s (measured-admitted-d1 s cap d tried radius e) x (written-fits s w 0 0 x f.1 f.2).word.code noise (radius + 1) f.4
      (omega (arith, heavy)) (next-permitted s cap d tried radius e) in
      (x, f.1, f.2, noise, f.4, heavy, f.6, r.0, r.1, r.2, r.3)
