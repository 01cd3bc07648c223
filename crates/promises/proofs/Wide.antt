-- Request 5's own promises: a sheet is admitted with any n from 1 to 64 and with no other. All others hold of every admitted sheet, and so "read over n up to 64"
-- as they stand. Assumes nothing.
use mathlib.Core.Path.{◌≡◌, refl, sym, subst}
use mathlib.Core.Bool.{Bool, true, false}
use mathlib.Core.List.{[]}
use Prim.Native.Nat.{ℕ, ◌-◌, ◌+◌, ◌^◌, ◌≤◌, ◌<◌}
use native.Mathlib.Omega.{arith}
use lib.Pow.{pow_pos}
use Rattle.paper.specs.Promised.{Fits}
use Rattle.paper.specs.Refusals.{refusal}
use Rattle.paper.specs.Sheet.{Sheet, sheet, shaped, admits, Admitted}
use Rattle.paper.specs.Tables.{zeros, built}
use Rattle.blocks.proofs.Lists.{length-each, get_or-each}
use Rattle.building.proofs.Admitted.{built-admitted}
use Rattle.sheet.proofs.Verdicts.{shaped-facts, sound}
use Rattle.promises.proofs.Order.{admit-1}

-- "n may be 1 to 64": there is a sheet that is admitted, with k = n
pub any-n : (n : ℕ) → 1 ≤ n → n ≤ 64 → (s : Sheet) × (s.n ≡ n) × Admitted s
any-n n some few = (sheet n n 0 (built n n 0 (zeros n) [] []), refl, built-admitted n n 0 (zeros n) [] [] fits)
  where
    fits : Fits n n 0 (zeros n) [] []
    fits = record {
      some-cells = some;
      few-cells = few;
      some-message = some;
      space = omega arith;
      rows-P = length-each n (λ i. 0);
      rows-R = refl;
      rows-Q = refl;
      columns-P = λ i l. subst (λ (x : ℕ). x < 2 ^ (n - (n + 0))) (sym (get_or-each n (λ i. 0) i l)) (pow_pos (n - (n + 0)));
      columns-R = λ j l. absurd (omega arith);
      columns-Q = λ j l. absurd (omega arith);
    }

-- and no other n
pub no-other-n : (s : Sheet) → Admitted s → (1 ≤ s.n) × (s.n ≤ 64)
no-other-n s ok = let f = (sound s ok).shape in (f.some-cells, f.few-cells)

-- "n 65 is refusal 1", and so is every larger n, whatever else is handed in
pub above-64 : (s : Sheet) → 64 < s.n → admits s ≡ refusal 1 []
above-64 s far = (admit-1 s).1 (go (shaped s) refl)
  where
    go : (b : Bool) → shaped s ≡ b → shaped s ≡ false
    go false e = e
    go true e = absurd (omega (arith, (shaped-facts s e).few-cells))
