-- `parse_call` meets its contract: the verb up to the first space, and the numbers of its shape behind it.
-- It is what a line spells that is not silent and not too long.
use mathlib.Core.Path.{◌≡◌, sym, ap, ◌∙◌}
use mathlib.Core.List.{List, ◌∷◌}
use Prim.Native.Nat.{ℕ}
use native.Mathlib.Omega.{arith}
use Rattle.std.proofs.lemmas.Option.{MatchOption-at_none, MatchOption-at_some}
use Rattle.text.specs.Tokens.{cut}
use Rattle.lines.specs.Lines.{Found, unknown, called, known_at, lookup, spelled, calling, storing}
use Rattle.lines.proofs.Lines.{spelled-verb, spelled-called}
use Rattle.lines.proofs.call.parse_call.Goals as goal

-- a line whose verb is what is found
spells : {A : Type 0} (other : A) (known : ℕ → List ℕ → List (List ℕ) → A) (table line name tokens : List ℕ) (f : Found)
    → cut 32 line ≡ name ∷ cut 32 tokens → f ≡ lookup name 0 (cut 32 table) → known_at other known f (cut 32 tokens) ≡ spelled other known table (cut 32 line)
spells other known table line name tokens f first found =
    ap (λ (g : Found). known_at other known g (cut 32 tokens)) found ∙ sym (spelled-called other known table line name tokens first)

pub returns-in_default : goal.returns-in_default
returns-in_default c =
    let table = c.args.table.now in
    let room = c.args.numbers.now in
    let name = c.next_token.result.0.now in
    let alone = MatchOption-at_none _ _ c.in_default.is c.next_token.ensures.pieces in
    record {
      meaning = sym (ap (spelled unknown calling table) alone ∙ spelled-verb unknown calling table name);
      result_in_bounds = omega arith;
      numbers_after = sym (ap (spelled room (storing room) table) alone ∙ spelled-verb room (storing room) table name);
    }

pub returns-in_default-find : goal.returns-in_default-find
returns-in_default-find c =
    let a = c.args in
    let room = a.numbers.now in
    let name = c.next_token.result.0.now in
    let tokens = c.in-Some.tokens in
    let first = MatchOption-at_some _ _ tokens c.in-Some.is c.next_token.ensures.pieces in
    record {
      meaning = spells unknown calling a.table.now a.line.now name tokens.now _ first c.in_default-find.ensures;
      result_in_bounds = omega arith;
      numbers_after = spells room (storing room) a.table.now a.line.now name tokens.now _ first c.in_default-find.ensures;
    }

pub returns-in-Some-fill : goal.returns-in-Some-fill
returns-in-Some-fill c =
    let a = c.args in
    let room = a.numbers.now in
    let name = c.next_token.result.0.now in
    let tokens = c.in-Some.tokens in
    let first = MatchOption-at_some _ _ tokens c.in-Some.is c.next_token.ensures.pieces in
    record {
      meaning =
          ap (called c.in-Some-find.verb) c.in-Some-fill.ensures.meaning
          ∙ spells unknown calling a.table.now a.line.now name tokens.now _ first c.in-Some-find.ensures;
      result_in_bounds = c.in-Some-fill.ensures.result_in_bounds;
      numbers_after =
          c.fill.ensures.numbers_after ∙ spells room (storing room) a.table.now a.line.now name tokens.now _ first c.in-Some-find.ensures;
    }

pub returns-in-None : goal.returns-in-None
returns-in-None c =
    let a = c.args in
    let room = a.numbers.now in
    let name = c.next_token.result.0.now in
    let tokens = c.in-Some.tokens in
    let first = MatchOption-at_some _ _ tokens c.in-Some.is c.next_token.ensures.pieces in
    record {
      meaning =
          ap (called c.in-Some-find.verb) c.in-None.ensures.meaning
          ∙ spells unknown calling a.table.now a.line.now name tokens.now _ first c.in-Some-find.ensures;
      result_in_bounds = c.in-None.ensures.result_in_bounds;
      numbers_after =
          c.fill.ensures.numbers_after ∙ spells room (storing room) a.table.now a.line.now name tokens.now _ first c.in-Some-find.ensures;
    }
