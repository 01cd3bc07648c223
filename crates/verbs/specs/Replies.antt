-- Replies: the verbs, and the answer to what a line asks for.
use Rattle.std.specs.Prelude.{List, [], ◌∷◌, ◌++◌, ℕ, ◌+◌, ◌*◌, length, get_or}
use Rattle.paper.specs.Sheet.{admits}
use Rattle.paper.specs.Writing.{writes}
use Rattle.paper.specs.Reading.{reads}
use Rattle.paper.specs.Plate.{measures_d0, measures_d1}
use Rattle.paper.specs.Page.{opens}
use Rattle.text.specs.Bytes.{bytes}
use Rattle.lines.specs.Arguments.{sheet_in, arg}
use Rattle.lines.specs.Lines.{Asked, silent, unknown, call}
use Rattle.answers.specs.Answers.{spoken}
use Rattle.lines.specs.Shapes.{most_room}
use Rattle.pageverbs.specs.Pages.{pwrite_text, page_reading}
use Rattle.tableverbs.specs.Tabling.{tosheet_text, totables_text}
use Rattle.wholeverbs.specs.Wholes.{wpage_text}

-- the verbs, each with its shape
abbrev pub table : List ℕ
table = bytes "admit nnnL write nnnLwww read nnnLwn d0 nnnLn d1 nnnLn pwrite nnnLnLRnw pread nnnLnLnn tosheet nnnLLLmw totables nnnLmwmwmw open nnnL wpage nnnLnLRLmw"

-- the text of each verb's answer, in the order of the table: what the call's definition tells, spoken
abbrev pub verbs : List (List ℕ → List ℕ)
verbs =
    (λ ns. spoken (bytes "admitted") (admits (sheet_in ns)))
    ∷ (λ ns. spoken (bytes "word | d ") (writes (sheet_in ns) (arg ns 0) (arg ns 1) (arg ns 2)))
    ∷ (λ ns. spoken (bytes "message | z | tried ") (reads (sheet_in ns) (arg ns 0) (arg ns 1)))
    ∷ (λ ns. spoken (bytes "distance | tried ") (measures_d0 (sheet_in ns) (arg ns 0)))
    ∷ (λ ns. spoken (bytes "distance | tried | radius ") (measures_d1 (sheet_in ns) (arg ns 0)))
    ∷ (λ ns. pwrite_text ns)
    ∷ (λ ns. spoken (bytes "message | z | tried ") (page_reading ns))
    ∷ (λ ns. tosheet_text ns)
    ∷ (λ ns. totables_text ns)
    ∷ (λ ns. spoken (bytes "number ") (opens (sheet_in ns)))
    ∷ (λ ns. wpage_text ns)
    ∷ []

-- the text of the answer to a verb's call
abbrev pub replied : ℕ → List ℕ → List ℕ
replied v ns = get_or verbs v (λ ns. []) ns

-- the most bytes that the text and its newline may take: a line's own text, the lists that it lent, and three rooms
abbrev pub room_reply : List ℕ → ℕ
room_reply ns = 160 + 21 * (length ns + 3 * most_room)

-- the answer to what a line asks for
abbrev pub reply : Asked → List ℕ
reply silent = []
reply unknown = bytes "unknown\n"
reply (call v ns) = replied v ns ++ bytes "\n"
