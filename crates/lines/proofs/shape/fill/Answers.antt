-- `fill` meets its contract: the numbers read and those of the tokens and letters that are left are all the numbers.
-- Each number takes two bytes of the line at least, so that the room for the numbers cannot run out.
use mathlib.Core.Path.{◌≡◌, sym, ap, ◌∙◌}
use mathlib.Core.List.{List, [], ◌∷◌, ◌++◌, append-nil}
use Prim.Native.Nat.{ℕ, ◌+◌, ◌*◌, ◌≤◌, ◌<◌}
use native.Mathlib.Omega.{arith}
use lib.ListN.{length, take, drop, length-set, set}
use Rattle.std.specs.Prelude.{Option, Some, None, is_some, slice_get}
use Rattle.std.proofs.lemmas.Option.{MatchOption-at_none, MatchOption-at_some}
use Rattle.text.specs.Numerals.{numeral}
use Rattle.text.specs.Tokens.{up_to, cut}
use Rattle.text.proofs.Tokens.{up_to-le, first_piece}
use Rattle.text.proofs.Pieces.{cut-some}
use Rattle.text.proofs.Numerals.{numeral-most, numeral-long}
use Rattle.lines.specs.Shapes.{fill, filled, counted, held, unread, unrolled, most_of}
use Rattle.lines.proofs.Shapes.{after, turn-over, turn-none, turn-next, room-over, room-none, room-next, stores, fill_done, fill-short, filled-end}
use Rattle.lines.proofs.shape.fill.Goals as goal

-- what was read of a token, by the letter whose place the most is of
by_letter : (letter most : ℕ) (token : List ℕ) (n : Option ℕ) → most ≡ most_of letter → n ≡ numeral most token → numeral (most_of letter) token ≡ n
by_letter letter most token n m e = sym (e ∙ ap (λ (k : ℕ). numeral k token) m)

-- a number takes a byte at least, so that there is room for it
roomy : (rest token : List ℕ) (most x count bytes numbers : ℕ) → token ≡ up_to 32 rest → Some x ≡ numeral most token → 2 * count + length rest ≤ bytes
    → bytes ≤ 2 * numbers → count < numbers
roomy rest token most x count bytes numbers is value few wide = omega (arith, numeral-long most token x (sym value), up_to-le 32 rest, ap length is)

-- the token is the number x, of the next letter, and ts are the tokens behind it
module _ (numbers u u' token tokens : List ℕ) (count letter x : ℕ) (ts : List (List ℕ)) (first : cut 32 tokens ≡ token ∷ ts)
    (next : slice_get u 0 ≡ Some letter) (value : numeral (most_of letter) token ≡ Some x) (behind : u' ≡ unrolled letter x ++ drop 1 u) where
  -- the numbers with x
  more : (whole : Option (List ℕ)) → count < length numbers → whole ≡ after (take count numbers) (fill u (cut 32 tokens))
      → whole ≡ after (take (count + 1) (set numbers count x)) (fill u' ts)
  more whole k inv =
      turn-next whole (take count numbers) u token ts (inv ∙ ap (λ (t : List (List ℕ)). after (take count numbers) (fill u t)) first) letter next x u' value behind
      ∙ ap (λ (xs : List ℕ). after xs (fill u' ts)) (sym (stores numbers count x k))

  -- the room with x stored
  stored_more : (whole : List ℕ) → whole ≡ filled count numbers u (cut 32 tokens) → whole ≡ filled (count + 1) (set numbers count x) u' ts
  stored_more whole inv =
      room-next whole count numbers u token ts (inv ∙ ap (filled count numbers u) first) letter next x u' value behind

pub returns-in_err-letter : goal.returns-in_err-letter
returns-in_err-letter c =
    let l = c.loop-letter in
    let u = unread l.cursor in
    let first = cut-some 32 l.rest.now in
    let over = sym c.in_err-letter.ensures in
    record {
      meaning =
          ap (λ (n : Option ℕ). counted n l.numbers) c.from_residual.ensures
          ∙ sym (turn-over _ (take l.count l.numbers) u first.0 first.1
          (l.invariant.whole ∙ ap (λ (t : List (List ℕ)). after (take l.count l.numbers) (fill u t)) first.2) over);
      result_in_bounds = omega (arith, ap held c.from_residual.ensures);
      numbers_after = sym (room-over _ l.count l.numbers u first.0 first.1 (l.invariant.room ∙ ap (filled l.count l.numbers u) first.2) over);
    }

pub returns-in_err-x : goal.returns-in_err-x
returns-in_err-x c =
    let l = c.loop-letter in
    let token = c.next_token.result.0.now in
    let letter = c.in_ok-letter.letter in
    let u = unread l.cursor in
    let first = first_piece 32 l.rest.now token c.next_token.result.1 c.next_token.ensures.pieces in
    let next = sym c.in_ok-letter.ensures in
    let value = by_letter letter c.most_of.result token None c.most_of.ensures c.in_err-x.ensures in
    record {
      meaning =
          ap (λ (n : Option ℕ). counted n l.numbers) c.from_residual-in_err-x.ensures
          ∙ sym (turn-none _ (take l.count l.numbers) u token first.0
          (l.invariant.whole ∙ ap (λ (t : List (List ℕ)). after (take l.count l.numbers) (fill u t)) first.1) letter next value);
      result_in_bounds = omega (arith, ap held c.from_residual-in_err-x.ensures);
      numbers_after =
          sym (room-none _ l.count l.numbers u token first.0 (l.invariant.room ∙ ap (filled l.count l.numbers u) first.1) letter next value);
    }

pub bounds-numbers-count : goal.bounds-numbers-count
bounds-numbers-count c =
    let l = c.loop-letter in
    roomy l.rest.now c.next_token.result.0.now c.most_of.result c.in_ok-x.x l.count (length c.args.line.now) (length l.numbers)
    c.next_token.ensures.token_value c.in_ok-x.ensures l.invariant.few (omega (arith, l.invariant.wide))

pub behind-cursor-requires-clause-x_bound : goal.behind-cursor-requires-clause-x_bound
behind-cursor-requires-clause-x_bound c =
    omega (arith, numeral-most c.most_of.result c.next_token.result.0.now c.in_ok-x.x (sym c.in_ok-x.ensures), c.most_of.ensures)

pub loop-letter-preserved : goal.loop-letter-preserved
loop-letter-preserved c =
    let l = c.loop-letter in
    let t = c.next_token in
    let token = t.result.0.now in
    let letter = c.in_ok-letter.letter in
    let x = c.in_ok-x.x in
    let u' = unread c.behind-cursor.result in
    let rest = c.in-Some.more in
    let first = MatchOption-at_some _ _ rest c.in-Some.is t.ensures.pieces in
    let shorter = MatchOption-at_some _ _ rest c.in-Some.is t.ensures.rest_value in
    let value = by_letter letter c.most_of.result token (Some x) c.most_of.ensures c.in_ok-x.ensures in
    let room =
    roomy l.rest.now token c.most_of.result x l.count (length c.args.line.now) (length l.numbers) t.ensures.token_value c.in_ok-x.ensures l.invariant.few
    (omega (arith, l.invariant.wide)) in
    record {
      few = omega (arith, numeral-long c.most_of.result token x (sym c.in_ok-x.ensures), shorter.0, l.invariant.few);
      wide = rw length-set l.invariant.wide;
      whole =
          more l.numbers (unread l.cursor) u' token l.rest.now l.count letter x (cut 32 rest.now) first (sym c.in_ok-letter.ensures) value
          c.behind-cursor.ensures _ room l.invariant.whole;
      room =
          stored_more l.numbers (unread l.cursor) u' token l.rest.now l.count letter x (cut 32 rest.now) first (sym c.in_ok-letter.ensures) value
          c.behind-cursor.ensures _ l.invariant.room;
    }

pub returns-then-is_none : goal.returns-then-is_none
returns-then-is_none c =
    let l = c.loop-letter in
    let t = c.next_token in
    let token = t.result.0.now in
    let letter = c.in_ok-letter.letter in
    let x = c.in_ok-x.x in
    let u' = unread c.behind-cursor.result in
    let first = MatchOption-at_none _ _ c.in-None.is t.ensures.pieces in
    let value = by_letter letter c.most_of.result token (Some x) c.most_of.ensures c.in_ok-x.ensures in
    let room =
    roomy l.rest.now token c.most_of.result x l.count (length c.args.line.now) (length l.numbers) t.ensures.token_value c.in_ok-x.ensures l.invariant.few
    (omega (arith, l.invariant.wide)) in
    let stored = take (l.count + 1) (set l.numbers l.count x) in
    let left = ap is_some (sym c.letter-in-None.ensures) ∙ c.if-is_none.ensures in
    record {
      meaning =
          sym (more l.numbers (unread l.cursor) u' token l.rest.now l.count letter x [] first (sym c.in_ok-letter.ensures) value c.behind-cursor.ensures _ room
          l.invariant.whole ∙ ap (after stored) (fill_done u' left) ∙ ap Some (append-nil stored));
      result_in_bounds = rw length-set (omega (arith, room));
      numbers_after =
          sym (stored_more l.numbers (unread l.cursor) u' token l.rest.now l.count letter x [] first (sym c.in_ok-letter.ensures) value
          c.behind-cursor.ensures _ l.invariant.room ∙ filled-end _ _ u');
    }

pub returns-else-is_none : goal.returns-else-is_none
returns-else-is_none c =
    let l = c.loop-letter in
    let t = c.next_token in
    let token = t.result.0.now in
    let letter = c.in_ok-letter.letter in
    let x = c.in_ok-x.x in
    let u' = unread c.behind-cursor.result in
    let first = MatchOption-at_none _ _ c.in-None.is t.ensures.pieces in
    let value = by_letter letter c.most_of.result token (Some x) c.most_of.ensures c.in_ok-x.ensures in
    let room =
    roomy l.rest.now token c.most_of.result x l.count (length c.args.line.now) (length l.numbers) t.ensures.token_value c.in_ok-x.ensures l.invariant.few
    (omega (arith, l.invariant.wide)) in
    let stored = take (l.count + 1) (set l.numbers l.count x) in
    let left = ap is_some (sym c.letter-in-None.ensures) ∙ c.if-is_none.ensures in
    record {
      meaning =
          sym (more l.numbers (unread l.cursor) u' token l.rest.now l.count letter x [] first (sym c.in_ok-letter.ensures) value c.behind-cursor.ensures _ room
          l.invariant.whole ∙ ap (after stored) (fill-short u' left));
      result_in_bounds = omega arith;
      numbers_after =
          sym (stored_more l.numbers (unread l.cursor) u' token l.rest.now l.count letter x [] first (sym c.in_ok-letter.ensures) value
          c.behind-cursor.ensures _ l.invariant.room ∙ filled-end _ _ u');
    }
