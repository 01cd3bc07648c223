-- Input and its answers, computed: what the definitions say of an example is what is written down.
-- They show a newline, a carriage return, a comment and a line that is no call at work.
use mathlib.Core.Path.{◌≡◌, refl}
use lib.Count.{ones}
use Rattle.paper.specs.Words.{sum}
use Rattle.paper.specs.Sheet.{judged}
use Rattle.text.specs.Bytes.{bytes}
use Rattle.text.specs.Tokens.{cut}
use Rattle.text.specs.Numerals.{numeral, valued}
use Rattle.lines.specs.Lines.{asked, comes, spelled, lookup}
use Rattle.lines.specs.Shapes.{fill}
use Rattle.talk.specs.Talk.{replies, talk}

-- an answer a line, none to an empty line or a comment; the last line need not end
lines : talk (bytes "admit 3 1 2 4 1 3 5 7\n\nwhat\n# x\nadmit 3 1 2 4 1 3 5 7") ≡ bytes "admitted\nunknown\nadmitted\n"
unfolding replies cut asked comes spelled lookup fill numeral valued judged ones sum
lines = refl

-- a carriage return before the end of a line belongs to the end; anywhere else it is a byte that no call has
returns : talk (bytes "admit 3 1 2 4 1 3 5 7\r\n\r\n\r\r\nadmit\r 3 1 2 4 1 3 5 7\nadmit 3 1 2 4 1 3 5 7\r")
    ≡ bytes "admitted\nunknown\nunknown\nadmitted\n"
unfolding replies cut asked comes spelled lookup fill numeral valued judged ones sum
returns = refl
