-- `next_token` meets its contract: what is counted is the token, and what stands behind its stop is what is left of the bytes.
-- It is how tokens, labels and lines are found.
use mathlib.Core.Path.{◌≡◌, sym, ap, ◌∙◌}
use Prim.Native.Nat.{ℕ}
use native.Mathlib.Omega.{arith}
use lib.ListN.{drop}
use Rattle.text.specs.Tokens.{up_to}
use Rattle.text.proofs.Tokens.{token_in, token_is, behind_stop, pieces_are}
use Rattle.text.proofs.next_token.Goals as goal

pub split_at-requires : goal.split_at-requires
split_at-requires c = token_in c.args.stop c.count_before.result c.args.bytes.now c.count_before.ensures

pub returns : goal.returns
returns c =
    let xs = c.args.bytes.now in
    let e = c.count_before.result in
    let token = c.split_at.result.0.now in
    let s = c.split_at.ensures in
    let first : token ≡ up_to c.args.stop xs = s.front ∙ token_is c.args.stop e xs c.count_before.ensures in
    let behind =
    behind_stop xs token c.split_at.result.1.now c.get.result (s.back ∙ ap (λ (n : ℕ). drop n xs) (sym s.front_len))
    (omega (arith, s.back_len, s.front_len)) c.get.ensures.lookup in
    record { token_value = first; rest_value = behind; pieces = pieces_are c.args.stop xs token c.get.result first behind }
