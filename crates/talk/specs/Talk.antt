-- Talk: the answers to the whole input, and the steps through it.
use Rattle.std.specs.Prelude.{◌≡◌, List, [], ◌∷◌, ◌++◌, Bool, cond, ℕ, ◌+◌, ◌*◌, ◌≤◌, ◌<◌, min, ltb, length, take, drop}
use Rattle.text.specs.Tokens.{up_to, cut, Whole}
use Rattle.text.specs.Puts.{Put}
use Rattle.lines.specs.Lines.{asked, asked_in, room_line}
use Rattle.verbs.specs.Replies.{table, reply, room_reply}
use Rattle.talk.specs.declared.Step.{Step}

-- the answers to lines, one after the other
unfoldable pub replies : List (List ℕ) → List ℕ
replies [] = []
replies (line ∷ lines) = reply (asked table line) ++ replies lines

-- the answers to the whole input: a newline, byte 10, ends a line, and the last line need not end
abbrev pub talk : List ℕ → List ℕ
talk input = replies (cut 10 input)

-- a step through the input: of what is held of a line and the bytes that follow, `text` is the answer to what was taken, however the input goes on
pub record Stepped (begun rest text begun' rest' : List ℕ) : Type 0 where
  pub same : (later : List ℕ) → talk (begun ++ (rest ++ later)) ≡ text ++ talk (begun' ++ (rest' ++ later))
  pub whole : Whole 10 begun'

-- some text is the answer to what was taken, as the texts of several steps are, one after the other
abbrev pub Answered : (begun rest begun' rest' : List ℕ) → Type 0
Answered begun rest begun' rest' = (text : List ℕ) × Stepped begun rest text begun' rest'

-- what is held of a line once the bytes up to the next newline were taken, as far as its room goes
abbrev pub taken : List ℕ → ℕ → List ℕ → List ℕ
taken input held line = take (length line) (take held line ++ up_to 10 input)

-- whether a newline ended it
abbrev pub ends : List ℕ → Bool
ends input = ltb (length (up_to 10 input)) (length input)

-- what a step leaves, to the last byte of each room
pub record Left (input : List ℕ) (held : ℕ) (line ns out : List ℕ) (r : Step) (line' ns' out' : List ℕ) : Type 0 where
  pub passes : r.from ≡ min (length input) (length (up_to 10 input) + 1)
  pub goes : r.rest.now ≡ drop (length (up_to 10 input) + 1) input
  pub holds : r.held ≡ cond (ends input) 0 (length (taken input held line))
  pub lines : line' ≡ taken input held line ++ drop (length (taken input held line)) line
  pub numbers : ns' ≡ cond (ends input) (asked_in table (taken input held line) ns) ns
  pub says : Put out 0 (cond (ends input) (reply (asked table (taken input held line))) []) r.at out'

-- the rooms hold a line that is too long by a byte and its carriage return, the numbers of the longest call, and its answer
pub record Rooms (line ns out : List ℕ) : Type 0 where
  pub lines : 1 + room_line < length line
  pub numbers : room_line ≤ 2 * length ns
  pub answers : room_reply ns ≤ length out
