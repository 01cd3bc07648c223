-- `find` meets its contract: from wherever the loop stands, what is found is the same.
-- It is how a verb is found in the table.
use mathlib.Core.Path.{◌≡◌, sym, ap, ◌∙◌}
use mathlib.Core.List.{List, [], ◌∷◌}
use Prim.Native.Nat.{ℕ, ◌+◌}
use native.Mathlib.Omega.{arith}
use Rattle.std.proofs.lemmas.Option.{MatchOption-at_none, MatchOption-at_some}
use Rattle.text.specs.Tokens.{cut}
use Rattle.text.proofs.Tokens.{first_piece}
use Rattle.lines.specs.Lines.{Found, lookup, found}
use Rattle.lines.proofs.Lines.{lookup-one, lookup-none, lookup-same, lookup-other}
use Rattle.lines.proofs.call.find.Goals as goal

pub returns-in_err-behind : goal.returns-in_err-behind
returns-in_err-behind c =
    let l = c.loop-shape in
    let t = c.next_token in
    let name = c.args.name.now in
    ap found c.from_residual.ensures
    ∙ sym (l.invariant.same ∙ ap (lookup name l.v) (MatchOption-at_none _ _ c.in_err-behind.was t.ensures.pieces) ∙ lookup-one name l.v t.result.0.now)

-- the entry, its shape and the tokens behind them
module _ (name : List ℕ) (v : ℕ) (rest behind : List ℕ) {entry shape : List ℕ} {ts : List (List ℕ)} {whole : Found} (same : whole ≡ lookup name v (cut 32 rest))
    (first : cut 32 rest ≡ entry ∷ cut 32 behind) (next : cut 32 behind ≡ shape ∷ ts) where
  entries : whole ≡ lookup name v (entry ∷ shape ∷ ts)
  entries = same ∙ ap (lookup name v) (first ∙ ap (λ (l : List (List ℕ)). entry ∷ l) next)

pub returns-then-eq : goal.returns-then-eq
returns-then-eq c =
    let l = c.loop-shape in
    let t = c.next_token in
    let s = c.next_token-in-loop-shape in
    let name = c.args.name.now in
    let next = first_piece 32 c.in_ok-behind.field-0.now s.result.0.now s.result.1 s.ensures.pieces in
    sym (entries name l.v l.rest.now c.in_ok-behind.field-0.now l.invariant.same (MatchOption-at_some _ _ c.in_ok-behind.field-0 c.in_ok-behind.was t.ensures.pieces) next.1
    ∙ lookup-same name l.v t.result.0.now s.result.0.now next.0 (sym c.eq.ensures ∙ c.if-eq.true))

pub returns-in_err-rest : goal.returns-in_err-rest
returns-in_err-rest c =
    let l = c.loop-shape in
    let t = c.next_token in
    let s = c.next_token-in-loop-shape in
    let name = c.args.name.now in
    ap found c.from_residual-in_err-rest.ensures
    ∙ sym (entries name l.v l.rest.now c.in_ok-behind.field-0.now l.invariant.same (MatchOption-at_some _ _ c.in_ok-behind.field-0 c.in_ok-behind.was t.ensures.pieces)
    (MatchOption-at_none _ _ c.in_err-rest.was s.ensures.pieces)
    ∙ lookup-other name l.v t.result.0.now s.result.0.now [] (sym c.eq.ensures ∙ c.if-eq.false) ∙ lookup-none name (l.v + 1))

pub loop-shape-preserved : goal.loop-shape-preserved
loop-shape-preserved c =
    let l = c.loop-shape in
    let t = c.next_token in
    let s = c.next_token-in-loop-shape in
    let name = c.args.name.now in
    let behind = c.in_ok-behind.field-0 in
    let rest = c.in_ok-rest.rest in
    let shorter = MatchOption-at_some _ _ behind c.in_ok-behind.was t.ensures.rest_value in
    let shortest = MatchOption-at_some _ _ rest c.in_ok-rest.was s.ensures.rest_value in
    record {
      few = omega (arith, shorter.0, shortest.0, l.invariant.few);
      same =
          entries name l.v l.rest.now behind.now l.invariant.same (MatchOption-at_some _ _ behind c.in_ok-behind.was t.ensures.pieces)
          (MatchOption-at_some _ _ rest c.in_ok-rest.was s.ensures.pieces)
          ∙ lookup-other name l.v t.result.0.now s.result.0.now (cut 32 rest.now) (sym c.eq.ensures ∙ c.if-eq.false);
    }
