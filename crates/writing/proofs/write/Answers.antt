-- `write` meets its contract: rules 7 and 8 in their order, then the word.
use mathlib.Core.Path.{refl, sym, ap, ◌∙◌}
use native.Mathlib.Omega.{arith}
use Rattle.paper.specs.Words.{width}
use Rattle.paper.specs.Writing.{writes_admitted}
use Rattle.words.specs.Places.{as_first}
use Rattle.rules.proofs.Rules.{unless-stop, unless-pass, stop-first, pass}
use Rattle.writing.proofs.Breaches.{levels-inside}
use Rattle.writing.proofs.write.Goals as goal

pub returns-then-not-is_low : goal.returns-then-not-is_low
unfolding writes_admitted
returns-then-not-is_low c = rw (← c.sheet.view_is) (unless-stop 7 _ (sym c.is_low.ensures ∙ c.if-not-is_low.true))

pub returns-in-Some : goal.returns-in-Some
unfolding writes_admitted
returns-in-Some c =
    rw (← c.sheet.view_is)
    (unless-pass 7 _ (sym c.is_low.ensures ∙ c.if-not-is_low.false)
    (stop-first 8 _ c.find_misplaced.ensures c.in-Some.is))

pub choose_word-requires : goal.choose_word-requires
choose_word-requires c = levels-inside width _ _ _ (omega arith) (sym c.find_misplaced.ensures ∙ ap as_first c.in_default.is)

pub returns : goal.returns
unfolding writes_admitted
returns c =
    c.choose_word.ensures
    ∙ rw (← c.sheet.view_is)
    (unless-pass 7 _ (sym c.is_low.ensures ∙ c.if-not-is_low.false)
    (pass 8 _ c.find_misplaced.ensures 0 c.in_default.is refl))
