-- One step more gathers one record more, and behind the first that breaks the rule nothing changes: the steps over all records are what the records of the slot gather to.
-- For `gather`, whose loop has gathered the records that it passed. Assumes nothing.
use mathlib.Core.Path.{◌≡◌, refl, sym, ap, ap₂, ◌∙◌, subst}
use mathlib.Core.Bool.{Bool, true, false, cond, ◌||◌}
use mathlib.Core.List.{List, [], ◌∷◌, ◌++◌, append-nil, append_assoc}
use Prim.Native.Nat.{ℕ, suc, ◌+◌, ◌^◌, ◌≤◌, ◌<◌, min}
use native.Mathlib.Nat.{le_refl}
use native.Mathlib.Numerals.{add-one}
use native.Mathlib.Decide.{dec_lt}
use native.Mathlib.Omega.{arith}
use borrow.Author.Tests.{le-leb, lt-leb}
use lib.Dec.{eqb, leb}
use Rattle.std.specs.Prelude.{Result, Ok, Err, IfOk, MatchResult}
use lib.ListN.{length, get_or, take, drop, take-append-drop, length-append, length-take, get_or-append}
use lib.Seq.{take-suc, take-append-le, take-append_seam, get_or-append_seam}
use Rattle.paper.specs.First.{First, nowhere, at, or_at, first}
use Rattle.paper.specs.Page.{records_of, breaks, no_record, first_broken}
use Rattle.paper.specs.Words.{width}
use Rattle.paper.specs.declared.StuckCell.{StuckCell}
use Rattle.records.specs.Gather.{said_by, gathered_at, nothing, gather_of, spoils, step_of, next_of}
use Rattle.records.specs.declared.Gathered.{Gathered}
use Rattle.records.proofs.Lists.{records-append}
use Rattle.records.proofs.Said.{stuck-more, levels-more, Agreed, unbroken}
use Rattle.words.proofs.Firsts.{first-same, first-at}

-- ---- one record more, behind the others

own-more : (slot : ℕ) (xs : List StuckCell) (r : StuckCell) → records_of slot (xs ++ r ∷ []) ≡ cond (eqb r.slot slot) (records_of slot xs ++ r ∷ []) (records_of slot xs)
own-more slot xs r = records-append slot xs (r ∷ []) ∙ go (eqb r.slot slot)
  where
    go : (b : Bool) → records_of slot xs ++ cond b (r ∷ []) [] ≡ cond b (records_of slot xs ++ r ∷ []) (records_of slot xs)
    go true = refl
    go false = append-nil (records_of slot xs)

length_more : (rs : List StuckCell) (r : StuckCell) → length (rs ++ r ∷ []) ≡ suc (length rs)
length_more rs r = length-append rs (r ∷ []) ∙ add-one (length rs)

broken-more : (n : ℕ) (rs : List StuckCell) (r : StuckCell) → first_broken n (rs ++ r ∷ []) ≡ or_at (first_broken n rs) (length rs) (breaks n rs r)
unfolding first first_broken
broken-more n rs r =
    ap (λ (m : ℕ). first m (λ i. breaks n (take i (rs ++ r ∷ [])) (get_or (rs ++ r ∷ []) i no_record))) (length_more rs r)
    ∙ ap₂ (λ (f : First) (b : Bool). or_at f (length rs) b)
    (first-same (λ i. breaks n (take i (rs ++ r ∷ [])) (get_or (rs ++ r ∷ []) i no_record)) (λ i. breaks n (take i rs) (get_or rs i no_record)) (length rs)
    (λ i l. ap₂ (breaks n) (take-append-le i rs (r ∷ []) (omega arith)) (get_or-append rs (r ∷ []) no_record i l)))
    (ap₂ (breaks n) (take-append_seam rs (r ∷ [])) (get_or-append_seam rs r [] no_record))

-- ---- the test of the code is that of the definition

least : (n m c : ℕ) → leb (min n m) c ≡ leb n c || leb m c
least n m c = go (dec_lt c n) (dec_lt c m)
  where
    go : Dec (c < n) → Dec (c < m) → leb (min n m) c ≡ leb n c || leb m c
    go (yes p) (yes q) = lt-leb (min n m) c (omega arith) ∙ sym (ap₂ ◌||◌ (lt-leb n c p) (lt-leb m c q))
    go (yes p) (no q) = le-leb (min n m) c (omega arith) ∙ sym (ap₂ ◌||◌ (lt-leb n c p) (le-leb m c (omega arith)))
    go (no p) q = le-leb (min n m) c (omega arith) ∙ sym (ap (λ (b : Bool). b || leb m c) (le-leb n c (omega arith)))

spoils-breaks : (n : ℕ) (rs : List StuckCell) (r : StuckCell) → Agreed (min n width) rs → spoils n (said_by rs) r ≡ breaks (min n width) rs r
spoils-breaks n rs r a = rw (least n width r.cell, a.tells r) (assoc (leb n r.cell) _ _)
  where
    assoc : (x y z : Bool) → x || (y || z) ≡ (x || y) || z
    assoc true y z = refl
    assoc false y z = refl

-- ---- a step

-- at a record of another slot nothing changes
pub step_other : (slot n : ℕ) (r : StuckCell) → eqb r.slot slot ≡ false → (g : Result Gathered ℕ) → next_of slot n g r ≡ g
unfolding step_of
step_other slot n r o (Ok g) = rw o
step_other slot n r o (Err i) = refl

module _ (slot n : ℕ) (rs : List StuckCell) (r : StuckCell) where
  -- after records of which none breaks the rule
  step-on : (b : Bool) → spoils n (said_by rs) r ≡ b → eqb r.slot slot ≡ true
      → step_of slot n (said_by rs) r ≡ gathered_at (or_at nowhere (length rs) b) (rs ++ r ∷ [])
  unfolding step_of
  step-on true e o = rw (o, e)
  step-on false e o = rw (o, e, length_more rs r, stuck-more rs r, levels-more rs r, add-one (length rs))

  step-own : (f : First) → first_broken (min n width) rs ≡ f → eqb r.slot slot ≡ true
      → next_of slot n (gathered_at f rs) r ≡ gathered_at (or_at f (length rs) (breaks (min n width) rs r)) (rs ++ r ∷ [])
  step-own nowhere e o = step-on (breaks (min n width) rs r) (spoils-breaks n rs r (unbroken (min n width) rs e)) o
  step-own (at i) e o = refl

  step_by : (b : Bool) → eqb r.slot slot ≡ b
      → next_of slot n (gathered_at (first_broken (min n width) rs) rs) r
      ≡ gathered_at (first_broken (min n width) (cond b (rs ++ r ∷ []) rs)) (cond b (rs ++ r ∷ []) rs)
  step_by true o = rw (broken-more (min n width) rs r) (step-own (first_broken (min n width) rs) refl o)
  step_by false o = step_other slot n r o (gathered_at (first_broken (min n width) rs) rs)

step-more : (slot n : ℕ) (xs : List StuckCell) (r : StuckCell) → next_of slot n (gather_of slot n xs) r ≡ gather_of slot n (xs ++ r ∷ [])
unfolding gather_of
step-more slot n xs r = rw (own-more slot xs r) (step_by slot n (records_of slot xs) r (eqb r.slot slot) refl)

-- ---- the records before the i-th

pub gathers-none : (slot n : ℕ) → Ok nothing ≡ gather_of slot n []
unfolding gather_of first_broken first
gathers-none slot n = refl

pub gathers-next : (slot n : ℕ) (ys : List StuckCell) (i : ℕ) → i < length ys
    → next_of slot n (gather_of slot n (take i ys)) (get_or ys i no_record) ≡ gather_of slot n (take (i + 1) ys)
gathers-next slot n ys i h =
    step-more slot n (take i ys) (get_or ys i no_record) ∙ rw (add-one i, take-suc ys i no_record h)

-- a step behind what was gathered of them
pub gathers-step : (slot n : ℕ) (ys : List StuckCell) (i : ℕ) → i < length ys → {g : Result Gathered ℕ} → g ≡ gather_of slot n (take i ys)
    → next_of slot n g (get_or ys i no_record) ≡ gather_of slot n (take (i + 1) ys)
gathers-step slot n ys i h e = ap (λ (g : Result Gathered ℕ). next_of slot n g (get_or ys i no_record)) e ∙ gathers-next slot n ys i h

-- behind the first that breaks the rule nothing changes
broken-stays : (slot n : ℕ) (xs ys : List StuckCell) {i : ℕ} → gather_of slot n xs ≡ Err i → gather_of slot n (xs ++ ys) ≡ Err i
broken-stays slot n xs [] e = rw append-nil e
broken-stays slot n xs (y ∷ ys) e =
    rw (← append_assoc xs (y ∷ []) ys)
    (broken-stays slot n (xs ++ y ∷ []) ys (sym (step-more slot n xs y) ∙ ap (λ (g : Result Gathered ℕ). next_of slot n g y) e))

pub gathers-broken : (slot n : ℕ) (ys : List StuckCell) (i : ℕ) {at : ℕ} → gather_of slot n (take i ys) ≡ Err at → gather_of slot n ys ≡ Err at
gathers-broken slot n ys i e = rw (← take-append-drop i ys) (broken-stays slot n (take i ys) (drop i ys) e)

own-few : (slot : ℕ) (xs : List StuckCell) → length (records_of slot xs) ≤ length xs
own-few slot [] = le_refl 0
own-few slot (x ∷ xs) = go (eqb x.slot slot) (own-few slot xs)
  where
    go : (b : Bool) → length (records_of slot xs) ≤ length xs → length (cond b (x ∷ records_of slot xs) (records_of slot xs)) ≤ suc (length xs)
    go true h = omega arith
    go false h = omega arith

place_few : (n m : ℕ) (rs : List StuckCell) (f : First) → first_broken n rs ≡ f → length rs ≤ m → MatchResult (gathered_at f rs) (λ g. g.place ≤ m) (λ at. at ≤ m)
unfolding first_broken
place_few n m rs nowhere e h = h
place_few n m rs (at i) e h = omega (arith, (first-at (λ i. breaks n (take i rs) (get_or rs i no_record)) (length rs) i e).0)

-- no more records are counted than were passed, and the place of the one that breaks the rule is no further
pub gathers-few : (slot n : ℕ) (ys : List StuckCell) (i : ℕ) → MatchResult (gather_of slot n (take i ys)) (λ g. g.place ≤ i) (λ at. at ≤ i)
unfolding gather_of
gathers-few slot n ys i =
    place_few (min n width) i (records_of slot (take i ys)) _ refl (omega (arith, own-few slot (take i ys), length-take i ys))

-- so a machine's number has room for one more
pub gathers-room : (slot n : ℕ) (ys : List StuckCell) (i : ℕ) {g : Result Gathered ℕ} → g ≡ gather_of slot n (take i ys) → i + 1 < 2 ^ 64
    → IfOk g (λ g. g.place + 1 < 2 ^ 64)
gathers-room slot n ys i {g = Ok g} e h =
    let few = subst (λ (x : Result Gathered ℕ). MatchResult x (λ g. g.place ≤ i) (λ at. at ≤ i)) (sym e) (gathers-few slot n ys i) in
    omega (arith, few)
gathers-room slot n ys i {g = Err place} e h = tt
