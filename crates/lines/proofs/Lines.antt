-- The table, a whole line with its carriage return, and its tokens; a line that is clipped asks for what the whole line does (`asked-held`).
-- The numbers of a call stand where the shape of its verb has them (`asked-stands`): that is what a verb may count on.
use mathlib.Core.Path.{◌≡◌, refl, sym, ap, ◌∙◌, subst}
use mathlib.Core.Bool.{Bool, true, false, cond}
use Rattle.std.specs.Prelude.{Option, Some, None, bytes_eq}
use mathlib.Core.List.{List, [], ◌∷◌}
use Prim.Native.Nat.{ℕ, zero, suc, ◌+◌, ◌-◌, ◌≤◌, ◌<◌}
use native.Mathlib.Decide.{dec_le, ℕ_discrete}
use native.Mathlib.Omega.{arith}
use lib.Dec.{eqb, leb}
use lib.ListN.{length, get_or, take, length-take}
use lib.Seq.{take_all, get_or-take}
use borrow.Author.Tests.{eq-eqb, ne_eqb, le-leb, lt-leb}
use Rattle.text.specs.Tokens.{cut}
use Rattle.text.proofs.Pieces.{cut-some}
use Rattle.lines.specs.Shapes.{fill, Stands}
use Rattle.lines.specs.Lines.{silent, unknown, call, Found, nowhere, at, lookup, shape_at, called, known_at, spelled, is_silent, comes, trimmed, calling, asked, storing, asked_in, room_line}
use Rattle.lines.proofs.Shapes.{fill-stands}

-- ---- the table

module _ (name : List ℕ) (v : ℕ) where
  -- a name without a shape is no entry
  pub lookup-one : (x : List ℕ) → lookup name v (x ∷ []) ≡ nowhere
  unfolding lookup
  lookup-one x = refl

  -- nothing is in an empty table
  pub lookup-none : lookup name v [] ≡ nowhere
  unfolding lookup
  lookup-none = refl

  module _ (x shape : List ℕ) (rest : List (List ℕ)) where
    -- the entry of that name
    pub lookup-same : bytes_eq x name ≡ true → lookup name v (x ∷ shape ∷ rest) ≡ at v shape
    unfolding lookup
    lookup-same e = rw e

    -- an entry of another name is passed by
    pub lookup-other : bytes_eq x name ≡ false → lookup name v (x ∷ shape ∷ rest) ≡ lookup name (v + 1) rest
    unfolding lookup
    lookup-other e = rw e

-- ---- a line that ends at its last byte

is_silent-of : (line : List ℕ) → 0 < length line → is_silent line ≡ eqb (get_or line 0 0) 35
is_silent-of [] h = absurd (omega arith)
is_silent-of (b ∷ bs) h = refl

module _ {A : Type 0} (other : A) (known : ℕ → List ℕ → List (List ℕ) → A) (nothing : A) where
  -- an empty line is silent
  pub comes-empty : (table line : List ℕ) → length line ≡ 0 → comes other known nothing table line ≡ nothing
  unfolding comes
  comes-empty table [] h = refl
  comes-empty table (b ∷ bs) h = absurd (omega arith)

  module _ (table line : List ℕ) (more : 0 < length line) where
    -- so is a comment
    pub comes-comment : get_or line 0 0 ≡ 35 → comes other known nothing table line ≡ nothing
    unfolding comes
    comes-comment e = rw (is_silent-of line more ∙ eq-eqb (get_or line 0 0) 35 e)

    module _ (n : get_or line 0 0 ≡ 35 → ⊥) where
      -- a line that is too long is no call
      pub comes-long : room_line < length line → comes other known nothing table line ≡ other
      unfolding comes
      comes-long h = rw (is_silent-of line more ∙ ne_eqb (get_or line 0 0) 35 n, lt-leb (length line) room_line h)

      -- any other line is what its tokens spell
      pub comes-spelled : length line ≤ room_line → comes other known nothing table line ≡ spelled other known table (cut 32 line)
      unfolding comes
      comes-spelled h = rw (is_silent-of line more ∙ ne_eqb (get_or line 0 0) 35 n, le-leb (length line) room_line h)

-- what `parse_trimmed` asks of a line, in turn
pub ruleset line_cases = (comes-empty, comes-comment, comes-long, comes-spelled)

-- ---- a carriage return at the end

-- what a line asks for is asked of the line without its carriage return
pub asked-trimmed : (table line : List ℕ) → asked table line ≡ comes unknown calling silent table (trimmed line)
unfolding asked
asked-trimmed table line = refl

-- and so is what it leaves in the room
pub asked_in-trimmed : (table line room : List ℕ) → asked_in table line room ≡ comes room (storing room) room table (trimmed line)
unfolding asked_in
asked_in-trimmed table line room = refl

-- the last byte, at n, is a carriage return
pub trimmed-return : (line : List ℕ) (n : ℕ) → length line ≡ suc n → get_or line n 0 ≡ 13 → take n line ≡ trimmed line
trimmed-return [] n h e = absurd (omega arith)
trimmed-return (b ∷ []) zero h e = sym (ap (λ (t : Bool). cond t [] (b ∷ [])) (eq-eqb b 13 e))
trimmed-return (b ∷ []) (suc n) h e = absurd (omega arith)
trimmed-return (b ∷ c ∷ bs) zero h e = absurd (omega arith)
trimmed-return (b ∷ c ∷ bs) (suc n) h e = ap (λ (l : List ℕ). b ∷ l) (trimmed-return (c ∷ bs) n (omega arith) e)

-- it is another byte
pub trimmed-same : (line : List ℕ) (n : ℕ) → length line ≡ suc n → (get_or line n 0 ≡ 13 → ⊥) → line ≡ trimmed line
trimmed-same [] n h e = absurd (omega arith)
trimmed-same (b ∷ []) zero h e = sym (ap (λ (t : Bool). cond t [] (b ∷ [])) (ne_eqb b 13 e))
trimmed-same (b ∷ []) (suc n) h e = absurd (omega arith)
trimmed-same (b ∷ c ∷ bs) zero h e = absurd (omega arith)
trimmed-same (b ∷ c ∷ bs) (suc n) h e = ap (λ (l : List ℕ). b ∷ l) (trimmed-same (c ∷ bs) n (omega arith) e)

-- nothing is taken off an empty line
pub trimmed-empty : (line : List ℕ) → length line ≡ 0 → line ≡ trimmed line
trimmed-empty [] h = refl
trimmed-empty (b ∷ bs) h = absurd (omega arith)

-- the same of the last byte, wherever it stands: what `trimmed` takes off, and what it leaves
module _ (line : List ℕ) where
  pub trimmed-off : 0 < length line → get_or line (length line - 1) 0 ≡ 13 → take (length line - 1) line ≡ trimmed line
  trimmed-off h e = trimmed-return line (length line - 1) (omega arith) e

  pub trimmed-kept : 0 < length line → (get_or line (length line - 1) 0 ≡ 13 → ⊥) → line ≡ trimmed line
  trimmed-kept h n = trimmed-same line (length line - 1) (omega arith) n

-- what is taken off a line, in turn
pub ruleset trims = (trimmed-empty, trimmed-off, trimmed-kept)

-- no more than a byte is taken off
trimmed-length : (line : List ℕ) → length line ≤ length (trimmed line) + 1
trimmed-length [] = omega arith
trimmed-length (b ∷ []) = omega arith
trimmed-length (b ∷ c ∷ bs) = omega (arith, trimmed-length (c ∷ bs))

trimmed-first : (line : List ℕ) → 1 < length line → get_or (trimmed line) 0 0 ≡ get_or line 0 0
trimmed-first [] h = absurd (omega arith)
trimmed-first (b ∷ []) h = absurd (omega arith)
trimmed-first (b ∷ c ∷ bs) h = refl

-- of a line that is too long, with a byte to spare for a carriage return, the first byte tells what it asks for
asked-far : (table line other : List ℕ) → 1 + room_line < length line → 1 + room_line < length other → get_or line 0 0 ≡ get_or other 0 0
    → asked table line ≡ asked table other
asked-far table line other h k same = asked-trimmed table line ∙ go (ℕ_discrete (get_or line 0 0) 35) ∙ sym (asked-trimmed table other)
  where
    long : (l : List ℕ) → 1 + room_line < length l → room_line < length (trimmed l)
    long l j = omega (arith, trimmed-length l)

    go : Dec (get_or line 0 0 ≡ 35) → comes unknown calling silent table (trimmed line) ≡ comes unknown calling silent table (trimmed other)
    go (yes e) =
        comes-comment unknown calling silent table (trimmed line) (omega (arith, long line h)) (trimmed-first line (omega arith) ∙ e)
        ∙ sym (comes-comment unknown calling silent table (trimmed other) (omega (arith, long other k)) (trimmed-first other (omega arith) ∙ sym same ∙ e))
    go (no n) =
        comes-long unknown calling silent table (trimmed line) (omega (arith, long line h)) (λ e. n (sym (trimmed-first line (omega arith)) ∙ e)) (long line h)
        ∙ sym (comes-long unknown calling silent table (trimmed other) (omega (arith, long other k)) (λ e. n (same ∙ sym (trimmed-first other (omega arith)) ∙ e)) (long other k))

-- a line that is clipped at a room of two bytes more than a call may have asks for what the whole line does
pub asked-held : (table : List ℕ) (room : ℕ) → 1 + room_line < room → (line : List ℕ) → asked table (take room line) ≡ asked table line
asked-held table room wide line = go (dec_le (length line) room)
  where
    go : Dec (length line ≤ room) → asked table (take room line) ≡ asked table line
    go (yes h) = ap (asked table) (take_all room line h)
    go (no n) =
        asked-far table (take room line) line (rw length-take (omega (arith, n))) (omega (arith, n)) (get_or-take room line 0 0 (omega arith))

-- ---- the tokens

module _ {A : Type 0} (other : A) (known : ℕ → List ℕ → List (List ℕ) → A) where
  -- a verb alone is no call
  pub spelled-verb : (table verb : List ℕ) → spelled other known table (verb ∷ []) ≡ other
  unfolding spelled
  spelled-verb table verb = refl

  spelled-call : (table verb t : List ℕ) (ts : List (List ℕ))
      → spelled other known table (verb ∷ t ∷ ts) ≡ known_at other known (lookup verb 0 (cut 32 table)) (t ∷ ts)
  unfolding spelled
  spelled-call table verb t ts = refl

  -- the verb up to the first space, and the tokens behind it
  pub spelled-called : (table line verb rest : List ℕ) → cut 32 line ≡ verb ∷ cut 32 rest
      → spelled other known table (cut 32 line) ≡ known_at other known (lookup verb 0 (cut 32 table)) (cut 32 rest)
  spelled-called table line verb rest e =
      let first = cut-some 32 rest in
      ap (spelled other known table) (e ∙ ap (λ (ts : List (List ℕ)). verb ∷ ts) first.2) ∙ spelled-call table verb first.0 first.1
      ∙ ap (known_at other known (lookup verb 0 (cut 32 table))) (sym first.2)

-- ---- the numbers of a call stand where the shape of its verb has them

called-some : (v w : ℕ) (m : Option (List ℕ)) (ns : List ℕ) → called v m ≡ call w ns → (v ≡ w) × (m ≡ Some ns)
called-some v w None ns e = let z : ◌≡◌ {A = ℕ} 0 1 = cc in absurd (omega arith)
called-some v w (Some xs) ns e = (cc, ap Some (let k : xs ≡ ns = cc in k))

nowhere-not : {v : ℕ} {s : List ℕ} → nowhere ≡ at v s → ⊥
nowhere-not e = let z : ◌≡◌ {A = ℕ} 0 1 = cc in omega arith

lookup-shape : (name : List ℕ) (v u : ℕ) (table : List (List ℕ)) (shape : List ℕ) → lookup name v table ≡ at u shape
    → (v ≤ u) × (shape_at table (u - v) ≡ shape)
unfolding lookup
lookup-shape name v u [] shape e = absurd (nowhere-not e)
lookup-shape name v u (x ∷ []) shape e = absurd (nowhere-not e)
lookup-shape name v u (x ∷ s ∷ rest) shape e = go (bytes_eq x name) e (lookup-shape name (v + 1) u rest shape)
  where
    go : (b : Bool) → cond b (at v s) (lookup name (v + 1) rest) ≡ at u shape
        → (lookup name (v + 1) rest ≡ at u shape → (v + 1 ≤ u) × (shape_at rest (u - (v + 1)) ≡ shape))
        → (v ≤ u) × (shape_at (x ∷ s ∷ rest) (u - v) ≡ shape)
    go true k next =
        let same : v ≡ u = cc in
        (omega arith, ap (shape_at (x ∷ s ∷ rest)) (let z : u - v ≡ 0 = omega arith in z) ∙ (let z : s ≡ shape = cc in z))
    go false k next =
        let r = next k in
        (omega (arith, r.0), ap (shape_at (x ∷ s ∷ rest)) (let z : u - v ≡ suc (u - (v + 1)) = omega (arith, r.0) in z) ∙ r.1)

unknown-not : {v : ℕ} {ns : List ℕ} → unknown ≡ call v ns → ⊥
unknown-not e = let z : ◌≡◌ {A = ℕ} 0 1 = cc in omega arith

silent-not : {v : ℕ} {ns : List ℕ} → silent ≡ call v ns → ⊥
silent-not e = let z : ◌≡◌ {A = ℕ} 0 1 = cc in omega arith

spelled-stands : (table : List ℕ) (ts : List (List ℕ)) (v : ℕ) (ns : List ℕ) → spelled unknown calling table ts ≡ call v ns → Stands (shape_at (cut 32 table) v) 0 ns
unfolding spelled
spelled-stands table [] v ns e = absurd (unknown-not e)
spelled-stands table (x ∷ []) v ns e = absurd (unknown-not e)
spelled-stands table (x ∷ t ∷ ts) v ns e = go (lookup x 0 (cut 32 table)) refl e
  where
    go : (f : Found) → lookup x 0 (cut 32 table) ≡ f → known_at unknown calling f (t ∷ ts) ≡ call v ns → Stands (shape_at (cut 32 table) v) 0 ns
    go nowhere p k = absurd (unknown-not k)
    go (at u shape) p k =
        let c = called-some u v (fill shape (t ∷ ts)) ns k in
        let found = lookup-shape x 0 u (cut 32 table) shape p in
        let same : shape_at (cut 32 table) v ≡ shape = ap (shape_at (cut 32 table)) (let z : v ≡ u - 0 = omega (arith, c.0) in z) ∙ found.1 in
        subst (λ (s : List ℕ). Stands s 0 ns) (sym same) (fill-stands shape (t ∷ ts) ns c.1)

comes-stands : (table line : List ℕ) (v : ℕ) (ns : List ℕ) → comes unknown calling silent table line ≡ call v ns → Stands (shape_at (cut 32 table) v) 0 ns
unfolding comes
comes-stands table line v ns e = go (is_silent line) (leb (length line) room_line) e
  where
    go : (a b : Bool) → cond a silent (cond b (spelled unknown calling table (cut 32 line)) unknown) ≡ call v ns → Stands (shape_at (cut 32 table) v) 0 ns
    go true b k = absurd (silent-not k)
    go false true k = spelled-stands table (cut 32 line) v ns k
    go false false k = absurd (unknown-not k)

-- of a whole line
pub asked-stands : (table line : List ℕ) (v : ℕ) (ns : List ℕ) → asked table line ≡ call v ns → Stands (shape_at (cut 32 table) v) 0 ns
asked-stands table line v ns e = comes-stands table (trimmed line) v ns (sym (asked-trimmed table line) ∙ e)
