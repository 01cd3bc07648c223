-- The lines of the input, however it comes in pieces, however much is held of a line that is too long, and however the last line ends.
-- `take_step` cites the steps, and the console puts them together (`answered-more`).
use mathlib.Core.Path.{◌≡◌, refl, sym, ap, ap₂, ◌∙◌, subst}
use mathlib.Core.Bool.{Bool, true, false}
use mathlib.Core.List.{List, [], ◌∷◌, ◌++◌, append_assoc}
use Prim.Native.Nat.{ℕ, suc, ◌+◌, ◌<◌}
use native.Mathlib.Numerals.{add-one}
use native.Mathlib.Omega.{arith}
use lib.Dec.{eqb}
use lib.ListN.{length, take, drop}
use lib.Seq.{take_all}
use Rattle.text.specs.Tokens.{up_to, Whole, led, cut}
use Rattle.text.proofs.Tokens.{pieces, up_to-take}
use Rattle.text.proofs.Pieces.{whole-nil, whole_join, whole_take, up_to-whole, up_to-split, cut-some, cut-front, cut-stop}
use Rattle.lines.specs.Lines.{Asked, asked, room_line}
use Rattle.lines.proofs.Lines.{asked-held}
use Rattle.verbs.specs.Replies.{table, reply}
use Rattle.talk.specs.Talk.{replies, talk, Stepped, Answered, Rooms}

replies-cons : (line : List ℕ) (lines : List (List ℕ)) → replies (line ∷ lines) ≡ reply (asked table line) ++ replies lines
unfolding replies
replies-cons line lines = refl

-- a line that ends is answered, and the rest of the input behind it
talk-line : (line xs : List ℕ) → Whole 10 line → talk (line ++ (10 ∷ xs)) ≡ reply (asked table line) ++ talk xs
talk-line line xs w = ap replies (cut-stop 10 line xs w) ∙ replies-cons line (cut 10 xs)

-- ---- the end of the input ends its last line, as a newline does

cut-more : (xs : List ℕ) → cut 10 (xs ++ (10 ∷ [])) ≡ cut 10 xs ++ ([] ∷ [])
unfolding cut
cut-more [] = refl
cut-more (b ∷ xs) = go (eqb b 10) (cut-more xs) (cut-some 10 xs)
  where
    led-more : (ts : List (List ℕ)) → (t : List ℕ) × (rest : List (List ℕ)) × (ts ≡ t ∷ rest) → led b (ts ++ ([] ∷ [])) ≡ led b ts ++ ([] ∷ [])
    led-more [] (t, rest, e) = let z : ◌≡◌ {A = ℕ} 0 1 = cc in absurd (omega arith)
    led-more (t ∷ ts) some = refl

    go : (e : Bool) → cut 10 (xs ++ (10 ∷ [])) ≡ cut 10 xs ++ ([] ∷ []) → (t : List ℕ) × (ts : List (List ℕ)) × (cut 10 xs ≡ t ∷ ts)
        → elim e [ true ↦ [] ∷ cut 10 (xs ++ (10 ∷ [])) | false ↦ led b (cut 10 (xs ++ (10 ∷ []))) ]
        ≡ ◌++◌ {A = List ℕ} (elim e [ true ↦ [] ∷ cut 10 xs | false ↦ led b (cut 10 xs) ]) ([] ∷ [])
    go true h some = ap (λ (ts : List (List ℕ)). [] ∷ ts) h
    go false h some = ap (led b) h ∙ led-more (cut 10 xs) some

replies-more : (lines : List (List ℕ)) → replies (lines ++ ([] ∷ [])) ≡ replies lines
unfolding replies asked
replies-more [] = refl
replies-more (line ∷ lines) = ap (λ (l : List ℕ). reply (asked table line) ++ l) (replies-more lines)

-- so a newline behind the input changes no answer
pub talk-newline : (input : List ℕ) → talk (input ++ (10 ∷ [])) ≡ talk input
talk-newline input = ap replies (cut-more input) ∙ replies-more (cut 10 input)

-- ---- a line in pieces

module _ (room : ℕ) (wide : 1 + room_line < room) where
  -- of a line that has begun no more is held than the room has, and that changes no answer
  pub talk-held : (line xs : List ℕ) → Whole 10 line → talk (line ++ xs) ≡ talk (take room line ++ xs)
  talk-held line xs w =
      let first = cut-some 10 xs in
      let t = first.0 in
      let ts = first.1 in
      let same : asked table (line ++ t) ≡ asked table (take room line ++ t) =
      sym (asked-held table room wide (line ++ t)) ∙ ap (asked table) (sym (pieces room line t)) ∙ asked-held table room wide (take room line ++ t) in
      ap replies (cut-front 10 line xs t ts w first.2) ∙ replies-cons (line ++ t) ts ∙ ap (λ (a : Asked). reply a ++ replies ts) same
      ∙ sym (replies-cons (take room line ++ t) ts) ∙ sym (ap replies (cut-front 10 (take room line) xs t ts (whole_take 10 room line w) first.2))

  -- the input, behind what is held of a line
  module _ (begun input : List ℕ) (w : Whole 10 begun) where
    abbrev seg : List ℕ
    seg = up_to 10 input

    -- what is held has no newline
    pub held_whole : Whole 10 (take room (begun ++ seg))
    held_whole = whole_take 10 room (begun ++ seg) (whole_join 10 begun seg w (up_to-whole 10 input))

    -- the line ends
    pub line-ends : length seg < length input → (later : List ℕ)
        → talk (begun ++ (input ++ later)) ≡ reply (asked table (take room (begun ++ seg))) ++ talk (drop (suc (length seg)) input ++ later)
    line-ends h later =
        let rest : List ℕ = drop (suc (length seg)) input in
        ap (λ (l : List ℕ). talk (begun ++ (l ++ later))) (up_to-split 10 input h)
        ∙ ap (λ (l : List ℕ). talk (begun ++ l)) (append_assoc seg (10 ∷ rest) later)
        ∙ ap talk (sym (append_assoc begun seg (10 ∷ (rest ++ later))))
        ∙ talk-line (begun ++ seg) (rest ++ later) (whole_join 10 begun seg w (up_to-whole 10 input))
        ∙ ap (λ (a : Asked). reply a ++ talk (rest ++ later)) (sym (asked-held table room wide (begun ++ seg)))

    -- the line does not end
    pub line_stays : length seg ≡ length input → (later : List ℕ) → talk (begun ++ (input ++ later)) ≡ talk (take room (begun ++ seg) ++ later)
    line_stays h later =
        let all : input ≡ seg = sym (take_all (length seg) input (omega arith)) ∙ up_to-take 10 input in
        ap (λ (l : List ℕ). talk (begun ++ (l ++ later))) all ∙ ap talk (sym (append_assoc begun seg later))
        ∙ talk-held (begun ++ seg) later (whole_join 10 begun seg w (up_to-whole 10 input))

    -- a step, by what `take_line` ensures
    module _ {held : List ℕ} (holds : held ≡ take room (begun ++ up_to 10 input)) where
      -- the line goes on: no text, and its bytes are held
      pub step_stays : length (up_to 10 input) ≡ length input → Stepped begun input [] held []
      step_stays h =
          record {
            same = λ later. line_stays h later ∙ ap (λ (l : List ℕ). talk (l ++ later)) (sym holds);
            whole = subst (Whole 10) (sym holds) held_whole;
          }

      -- the line ends: its answer, and nothing is held
      pub step-ends : (rest text : List ℕ) → length (up_to 10 input) < length input → rest ≡ drop (length (up_to 10 input) + 1) input
          → text ≡ reply (asked table held) → Stepped begun input text [] rest
      step-ends rest text h r t =
          let behind : drop (suc (length seg)) input ≡ rest = ap (λ (k : ℕ). drop k input) (sym (add-one (length seg))) ∙ sym r in
          record {
            same = λ later.
                line-ends h later
                ∙ ap₂ (λ (l r : List ℕ). l ++ talk (r ++ later)) (sym (t ∙ ap (λ (l : List ℕ). reply (asked table l)) holds)) behind;
            whole = whole-nil 10;
          }

-- ---- steps, one after the other

-- before the first
pub answered-none : (begun rest : List ℕ) → Whole 10 begun → Answered begun rest begun rest
answered-none begun rest w = ([], record { same = λ later. refl; whole = w })

-- one more: its text stands behind the texts before it
pub answered-more : {begun rest begun' rest' text begun'' rest'' : List ℕ} → Answered begun rest begun' rest' → Stepped begun' rest' text begun'' rest''
    → Answered begun rest begun'' rest''
answered-more {text = text} {begun'' = begun''} {rest'' = rest''} (before, s) t = (
  before ++ text,
  record {
    same = λ later. s.same later ∙ ap (λ (l : List ℕ). before ++ l) (t.same later) ∙ sym (append_assoc before text (talk (begun'' ++ (rest'' ++ later))));
    whole = t.whole;
  },
)

-- rooms of the same lengths
pub rooms-kept : {line ns out line' ns' out' : List ℕ} → length line' ≡ length line → length ns' ≡ length ns → length out' ≡ length out → Rooms line ns out
    → Rooms line' ns' out'
rooms-kept l n o r = record { lines = omega arith; numbers = omega arith; answers = omega arith }
