-- `parse_number` meets its contract: the value so far and the bytes that are left give the whole token's number.
use mathlib.Core.Path.{◌≡◌}
use lib.ListN.{drop}
use Rattle.text.specs.Numerals.{numeral, fitting, valued}
use Rattle.text.proofs.parse_number.Given as goal

abbrev pub invariant-loop-byte : goal.invariant-loop-byte
invariant-loop-byte l = numeral l.most l.token ≡ fitting l.most (valued l.value (drop l.byte-index l.token))
