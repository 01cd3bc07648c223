-- Request 7: "results equal the single writes made in slot order". That page and notes after the call are those of a fold of single writes is its definition (`page_through`, `notes_through`);
-- here: each slot and note is that of the single write made on the page as it was, refusals agree, and so what is promised of single writes holds. Assumes nothing.
use mathlib.Core.Path.{◌≡◌, refl, sym, ap, ◌∙◌, subst}
use mathlib.Core.Bool.{Bool, true, false, ◌&&◌}
use mathlib.Core.Logic.{◌⊎◌, inl, inr, ⊎_elim}
use mathlib.Core.List.{List, [], ◌∷◌}
use Prim.Native.Nat.{ℕ, zero, suc, ◌*◌, ◌^◌, ◌≤◌, ◌<◌}
use native.Mathlib.Nat.{eq-or-lt_of_le, le_of_suc-le-suc}
use native.Mathlib.Omega.{arith}
use borrow.Author.Tests.{lt-ltb}
use lib.Dec.{ltb}
use lib.ListN.{length, set, get_or}
use lib.Seq.{get_or-set_same, get_or-set_other}
use Rattle.paper.specs.First.{First, at, nowhere}
use Rattle.paper.specs.Words.{weight, ◌⊕◌}
use Rattle.paper.specs.Plate.{D1}
use Rattle.paper.specs.Page.{most_slots, most_number, records_of, first_broken, stuck_by, levels_by, few_slots, few_records, paged, slot_writes, page_writes, page_after_write, page_reads}
use Rattle.paper.specs.WholePage.{one_each_slot, whole_writes, note, page_through, notes_through, whole_page, whole_notes}
use Rattle.paper.specs.Promised.{Fitting}
use Rattle.paper.specs.Refusals.{Told, answer, more, refusal, leaves, unless}
use Rattle.paper.specs.Sheet.{Sheet, WordOf}
use Rattle.paper.specs.Writing.{fits, word_of, fitting, chosen}
use Rattle.paper.specs.declared.StuckCell.{StuckCell}
use Rattle.rules.proofs.Rules.{either, either-at}
use Rattle.rules.proofs.Stages.{Stage, passes, refuses}
use Rattle.opening.proofs.Judging.{paged-stage}
use Rattle.whole.proofs.Singly.{page-length, notes-length}
use Rattle.whole.proofs.Stops.{unstopped}
use Rattle.promises.proofs.Pages.{write-independent, others-kept}
use Rattle.promises.proofs.PageDemands.{page-fits, page-none, slot-holds, page-reads-back}
use Rattle.promises.proofs.WholeOrder.{whole-done}

-- what a write leaves in its slot goes by what is told and by what the slot held
same-slot : (told : Told) (page page' : List ℕ) (i : ℕ) → i < length page → i < length page' → get_or page i 0 ≡ get_or page' i 0
    → get_or (page_after_write told page i) i 0 ≡ get_or (page_after_write told page' i) i 0
same-slot (answer values) page page' i l l' e = get_or-set_same page i (get_or values 0 0) 0 l ∙ sym (get_or-set_same page' i (get_or values 0 0) 0 l')
same-slot (more values) page page' i l l' e = e
same-slot (refusal number given) page page' i l l' e = e

-- a slot whose note is not 0 is left
left_by : (told : Told) (page : List ℕ) (slot : ℕ) → (note told ≡ 0 → ⊥) → page_after_write told page slot ≡ page
left_by (answer values) page slot h = absurd (h refl)
left_by (more values) page slot h = refl
left_by (refusal number given) page slot h = refl

-- ---- what a slot's write tells past the rules of sheet and page

module _ (s : Sheet) (rs : List StuckCell) (w : ℕ) where
  -- what holds of 15, 7 and 9 and of a word and its d holds of what it tells
  slot-either : (P : Told → Type 0) → ((given : List ℕ) → P (refusal 15 given)) → P (refusal 7 []) → P (refusal 9 []) → ((x d : ℕ) → P (answer (x ∷ d ∷ []))) → P (slot_writes s rs w)
  unfolding slot_writes
  slot-either P p15 p7 p9 v =
      either-at 15 (unless (ltb w (2 ^ s.k)) 7 (chosen s w (fitting s w (stuck_by rs) (levels_by rs)))) P (first_broken s.n rs) 0 p15
      (either 7 (chosen s w (fitting s w (stuck_by rs) (levels_by rs))) P (ltb w (2 ^ s.k)) p7 (go (fitting s w (stuck_by rs) (levels_by rs))))
    where
      go : (f : First) → P (chosen s w f)
      go (at d) = v (word_of s w d) d
      go nowhere = p9

  slot-tells : (m : ℕ) (given : List ℕ) → slot_writes s rs w ≡ refusal m given → (m ≡ 7) ⊎ ((m ≡ 9) ⊎ (m ≡ 15))
  slot-tells m given =
      slot-either (λ t. t ≡ refusal m given → (m ≡ 7) ⊎ ((m ≡ 9) ⊎ (m ≡ 15))) (λ g q. inr (inr cc)) (λ q. inl cc) (λ q. inr (inl cc))
      (λ x d q. let z : ◌≡◌ {A = ℕ} 0 1 = cc in absurd (omega arith))

  -- its note
  slot-notes : (note (slot_writes s rs w) ≡ 0) ⊎ ((note (slot_writes s rs w) ≡ 7) ⊎ ((note (slot_writes s rs w) ≡ 9) ⊎ (note (slot_writes s rs w) ≡ 15)))
  slot-notes =
      slot-either (λ t. (note t ≡ 0) ⊎ ((note t ≡ 7) ⊎ ((note t ≡ 9) ⊎ (note t ≡ 15)))) (λ g. inr (inr (inr refl))) (inr (inl refl)) (inr (inr (inl refl))) (λ x d. inl refl)

  -- 0 says that a word was written, and 9 that none fits
  slot-written : note (slot_writes s rs w) ≡ 0 → (x : ℕ) × (d : ℕ) × (slot_writes s rs w ≡ answer (x ∷ d ∷ []))
  slot-written =
      slot-either (λ t. note t ≡ 0 → (x : ℕ) × (d : ℕ) × (t ≡ answer (x ∷ d ∷ []))) (λ g q. absurd (omega arith)) (λ q. absurd (omega arith)) (λ q. absurd (omega arith))
      (λ x d q. (x, d, refl))

  slot-none : note (slot_writes s rs w) ≡ 9 → slot_writes s rs w ≡ refusal 9 []
  slot-none =
      slot-either (λ t. note t ≡ 9 → t ≡ refusal 9 []) (λ g q. absurd (omega arith)) (λ q. absurd (omega arith)) (λ q. refl) (λ x d q. absurd (omega arith))

module _ (s : Sheet) (number : ℕ) (page : List ℕ) (records : List StuckCell) (messages notes : List ℕ) where
  -- what the whole-page write tells, and the page and the notes after it
  abbrev whole : Told
  whole = whole_writes s number page records messages notes

  abbrev pages : ℕ → List ℕ
  pages = page_through s number page records messages

  abbrev noted : ℕ → List ℕ
  noted = notes_through s number page records messages notes

  -- what the single write of slot i tells, on the page as it was
  abbrev pub alone : ℕ → Told
  alone i = page_writes s number page records i (get_or messages i 0)

  -- ---- "refusals that concern the sheet or page stop it before any change to page or list"

  pub stopped : (m : ℕ) (given : List ℕ) → whole ≡ refusal m given
      → (whole_page s number page records messages notes ≡ page) × (whole_notes s number page records messages notes ≡ notes)
  stopped m given e = (ap (λ (t : Told). leaves t (pages (length page)) page) e, ap (λ (t : Told). leaves t (noted (length page)) notes) e)

  -- what 25 tells
  lengths-tell : (m : ℕ) (given : List ℕ) (b : Bool) → unless b 25 (answer []) ≡ refusal m given → m ≡ 25
  lengths-tell m given true q = let z : ◌≡◌ {A = ℕ} 0 1 = cc in absurd (omega arith)
  lengths-tell m given false q = cc

  -- they are those that every single write tells, but for 25, which is the lengths' own
  pub stopped-singly : (m : ℕ) (given : List ℕ) → whole ≡ refusal m given → (m ≡ 25 → ⊥) → (slot w : ℕ) → page_writes s number page records slot w ≡ refusal m given
  unfolding whole_writes page_writes
  stopped-singly m given e other slot w = go (paged-stage s number (few_slots page && few_records records))
    where
      go : Stage (paged s number (few_slots page && few_records records)) → page_writes s number page records slot w ≡ refusal m given
      go (passes p) = absurd (other (lengths-tell m given (one_each_slot page messages notes) (sym (p _) ∙ e)))
      go (refuses n g p) = p _ ∙ sym (p _) ∙ e

  -- and one that a single write tells of sheet or page stops it
  pub singly-stopped : (m : ℕ) (given : List ℕ) (slot w : ℕ) → page_writes s number page records slot w ≡ refusal m given → (m ≤ 6) ⊎ ((m ≡ 13) ⊎ (m ≡ 16)) → whole ≡ refusal m given
  unfolding whole_writes page_writes
  singly-stopped m given slot w e of-page = go (paged-stage s number (few_slots page && few_records records))
    where
      -- a slot's own refusals have other numbers
      Other : Type 0
      Other = (7 ≤ m) × (m ≡ 13 → ⊥) × (m ≡ 16 → ⊥)

      slots-own : (m ≡ 7) ⊎ ((m ≡ 9) ⊎ (m ≡ 15)) → Other
      slots-own (inl h) = (omega arith, λ e. omega arith, λ e. omega arith)
      slots-own (inr (inl h)) = (omega arith, λ e. omega arith, λ e. omega arith)
      slots-own (inr (inr h)) = (omega arith, λ e. omega arith, λ e. omega arith)

      own : unless (ltb slot (length page)) 14 (slot_writes s (records_of slot records) w) ≡ refusal m given → Other
      own =
          either 14 (slot_writes s (records_of slot records) w) (λ t. t ≡ refusal m given → Other) (ltb slot (length page))
          (λ q. let z : 14 ≡ m = cc in (omega arith, λ e. omega arith, λ e. omega arith)) (λ q. slots-own (slot-tells s (records_of slot records) w m given q))

      apart : Other → ⊥
      apart o = elim of-page [ inl h ↦ omega (arith, o.0) | inr q ↦ elim q [ inl h ↦ o.1 h | inr h ↦ o.2 h ] ]

      go : Stage (paged s number (few_slots page && few_records records)) → whole ≡ refusal m given
      go (passes p) = absurd (apart (own (sym (p _) ∙ e)))
      go (refuses n g p) = p _ ∙ sym (p _) ∙ e

  -- ---- "results equal the single writes"

  -- in the fold, slot i tells what it tells alone
  told-alone : (i : ℕ) → page_writes s number (pages i) records i (get_or messages i 0) ≡ alone i
  told-alone i = write-independent s number (pages i) page i records records (get_or messages i 0) (page-length s number page records messages i) refl refl

  -- a slot whose turn is to come, and one whose turn was
  ahead : (i j : ℕ) → i ≤ j → get_or (pages i) j 0 ≡ get_or page j 0
  unfolding page_through
  ahead zero j h = refl
  ahead (suc i) j h = others-kept (pages i) i (page_writes s number (pages i) records i (get_or messages i 0)) j (λ e. omega arith) ∙ ahead i j (omega arith)

  behind : (i j : ℕ) → j < i → j < length page → get_or (pages i) j 0 ≡ get_or (page_after_write (alone j) page j) j 0
  unfolding page_through
  behind zero j h l = absurd (omega arith)
  behind (suc i) j h l =
      ⊎_elim
      (λ e. subst (λ (m : ℕ). get_or (page_after_write (page_writes s number (pages i) records i (get_or messages i 0)) (pages i) i) m 0 ≡ get_or (page_after_write (alone m) page m) m 0) (sym e)
      (ap (λ (t : Told). get_or (page_after_write t (pages i) i) i 0) (told-alone i)
      ∙ same-slot (alone i) (pages i) page i (omega (arith, page-length s number page records messages i)) (omega arith) (ahead i i (omega arith))))
      (λ k. others-kept (pages i) i (page_writes s number (pages i) records i (get_or messages i 0)) j (λ e. omega arith) ∙ behind i j k l)
      (eq-or-lt_of_le (le_of_suc-le-suc h))

  behind-notes : (i j : ℕ) → j < i → j < length notes → get_or (noted i) j 0 ≡ note (alone j)
  unfolding notes_through
  behind-notes zero j h l = absurd (omega arith)
  behind-notes (suc i) j h l =
      let here = note (page_writes s number (pages i) records i (get_or messages i 0)) in
      ⊎_elim
      (λ e. subst (λ (m : ℕ). get_or (set (noted i) i here) m 0 ≡ note (alone m)) (sym e)
      (get_or-set_same (noted i) i here 0 (omega (arith, notes-length s number page records messages notes i)) ∙ ap note (told-alone i)))
      (λ k. get_or-set_other (noted i) i j here 0 (λ e. omega arith) ∙ behind-notes i j k l)
      (eq-or-lt_of_le (le_of_suc-le-suc h))

  module _ (done : whole ≡ answer []) where
    -- each slot holds, and each note tells, what the single write of that slot, made on the page as it was, leaves there and tells
    module _ (i : ℕ) (l : i < length page) where
      -- what slot i and its note are after the call
      abbrev pub slot-after : ℕ
      slot-after = get_or (whole_page s number page records messages notes) i 0

      abbrev pub note-after : ℕ
      note-after = get_or (whole_notes s number page records messages notes) i 0

      pub slot-alone : slot-after ≡ get_or (page_after_write (alone i) page i) i 0
      slot-alone = ap (λ (t : Told). get_or (leaves t (pages (length page)) page) i 0) done ∙ behind (length page) i l l

      pub note-alone : note-after ≡ note (alone i)
      note-alone =
          ap (λ (t : Told). get_or (leaves t (noted (length page)) notes) i 0) done
          ∙ behind-notes (length page) i l (omega (arith, l, ((whole-done s number page records messages notes).0 done).3.1))

      -- past the rules of sheet and page that is the slot's own
      alone-slot : alone i ≡ slot_writes s (records_of i records) (get_or messages i 0)
      unfolding page_writes whole_writes
      alone-slot =
          let write : Told = slot_writes s (records_of i records) (get_or messages i 0) in
          (unstopped s number (few_slots page && few_records records) (one_each_slot page messages notes) (sym done)).passed (unless (ltb i (length page)) 14 write)
          ∙ ap (λ (b : Bool). unless b 14 write) (lt-ltb i (length page) l)

      -- "A written slot's note is 0, any other's its refusal number alone": 15, 7 or 9
      pub note-numbers : (note-after ≡ 0) ⊎ ((note-after ≡ 7) ⊎ ((note-after ≡ 9) ⊎ (note-after ≡ 15)))
      note-numbers = rw (note-alone, alone-slot) (slot-notes s (records_of i records) (get_or messages i 0))

      -- so where the note is 0, demand 2 has the word that the slot holds, and what is promised of a single write that answers holds of it
      pub note-written : note-after ≡ 0
          → (x : ℕ) × (d : ℕ) × (alone i ≡ answer (x ∷ d ∷ [])) × (slot-after ≡ x)
          × Fitting s (get_or messages i 0) (stuck_by (records_of i records)) (levels_by (records_of i records)) x d
      note-written e =
          let q = slot-written s (records_of i records) (get_or messages i 0) (ap note (sym alone-slot) ∙ sym note-alone ∙ e) in
          let told = alone-slot ∙ q.2 in
          (q.0, q.1, told, slot-alone ∙ slot-holds s number page records i (get_or messages i 0) q.0 q.1 told, page-fits s number page records i (get_or messages i 0) q.0 q.1 told)

      -- "that slot is left as it was" where it is not
      pub note-left : (note-after ≡ 0 → ⊥) → slot-after ≡ get_or page i 0
      note-left h = slot-alone ∙ ap (λ (p : List ℕ). get_or p i 0) (left_by (alone i) page i (λ e. h (note-alone ∙ e)))

      -- and 9 is noted only if no word of the message fits
      pub note-none : note-after ≡ 9 → (x : ℕ) → WordOf s (get_or messages i 0) x → fits (stuck_by (records_of i records)) (levels_by (records_of i records)) x ≡ false
      note-none e =
          page-none s number page records i (get_or messages i 0)
          (alone-slot ∙ slot-none s (records_of i records) (get_or messages i 0) (ap note (sym alone-slot) ∙ sym note-alone ∙ e))

      -- demand 3's reading back: what the slot holds, disturbed in at most t cells on any later page, gives its message, by any number that is at most the true d1
      pub whole-reads-back : note-after ≡ 0 → (handed : ℕ) (later : List ℕ) (place noise t : ℕ) → get_or later place 0 ≡ slot-after ⊕ noise → noise < 2 ^ s.n → weight noise ≤ t
          → (d1 : ℕ) → D1 s d1 → handed ≤ d1 → handed ≤ most_number → length later ≤ most_slots → place < length later → 2 * t < handed
          → (z : ℕ) × (tried : ℕ) × (page_reads s handed later place t ≡ answer (get_or messages i 0 ∷ z ∷ tried ∷ []))
      whole-reads-back e handed later place noise t holds =
          let q = note-written e in
          page-reads-back s number page records i (get_or messages i 0) q.0 q.1 q.2 handed later place noise t (holds ∙ ap (λ (x : ℕ). x ⊕ noise) q.3)
