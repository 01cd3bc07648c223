-- `reduce` meets its contract: `rest` and `choice` are what the kept rows so far leave of x, and its choice.
use Rattle.std.proofs.Common.{ℕ, List, ◌≡◌, ◌+◌, ◌<◌, length, get_or, take, sym, ◌∙◌, ap, arith}
use native.Mathlib.Numerals.{add-one}
use Rattle.std.proofs.lemmas.List.{take_more}
use Rattle.paper.specs.Words.{◌⊕◌}
use Rattle.elimination.specs.declared.Reduced.{Reduced}
use Rattle.elimination.specs.Kept.{taken, added, reduced}
use Rattle.elimination.proofs.Reducing.{taken-top, taken-by-0, added-passed, reduced-none, reduced-more}
use Rattle.elimination.proofs.reduce.Goals as goal

-- no row
abbrev zero_row : Reduced
zero_row = record { rest = 0; choice = 0 }

-- one kept row more
next : (kept : List Reduced) (i x : ℕ) (r : Reduced) → i < length kept → r ≡ reduced (take i kept) x → added r (get_or kept i zero_row) ≡ reduced (take (i + 1) kept) x
next kept i x r h e =
    ap (λ (s : Reduced). added s (get_or kept i zero_row)) e
    ∙ sym (ap (λ (ks : List Reduced). reduced ks x) (take_more kept i zero_row h) ∙ reduced-more _ (get_or kept i zero_row) x)

pub loop-row-init : goal.loop-row-init
loop-row-init c = sym (reduced-none c.args.x)

pub loop-row-preserved : goal.loop-row-preserved
unfolding ◌⊕◌ added
loop-row-preserved c =
    let l = c.loop-row in
    let top = c.in-Some.top in
    let k : Reduced = get_or c.args.kept.now l.row-index zero_row in
    rw (sym (taken-top top k.rest l.rest c.in-Some.ensures.1 (rw (add-one top) at c.in-Some.ensures.2)))
    (next c.args.kept.now l.row-index c.args.x (record { rest = l.rest; choice = l.choice }) (omega arith) l.invariant)

pub loop-row-preserved-in_default : goal.loop-row-preserved-in_default
loop-row-preserved-in_default c =
    let l = c.loop-row in
    let r : Reduced = record { rest = l.rest; choice = l.choice } in
    let k : Reduced = get_or c.args.kept.now l.row-index zero_row in
    let none : taken k.rest r.rest ≡ 0 = ap (λ (p : ℕ). taken p l.rest) c.in_default.ensures ∙ taken-by-0 l.rest in
    sym (added-passed r k none) ∙ next c.args.kept.now l.row-index c.args.x r (omega arith) l.invariant
