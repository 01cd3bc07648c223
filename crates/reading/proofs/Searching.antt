-- The search of a read is the one search of the listing, with the test for codewords.
-- For the nearest codeword. Assumes nothing.
use mathlib.Core.Path.{◌≡◌}
use mathlib.Core.List.{List, []}
use Prim.Native.Nat.{ℕ, ◌+◌, ◌-◌}
use native.Mathlib.Omega.{arith}
use lib.Dec.{eqb}
use Rattle.paper.specs.Words.{products, ◌⊕◌}
use Rattle.paper.specs.Listing.{Search, weights, search}
use Rattle.paper.specs.Reading.{nearest}
use Rattle.paper.specs.Sheet.{Sheet, H}
use Rattle.listing.specs.Searches.{passes}
use Rattle.listing.proofs.Tests.{passes-plain, found_as}

module _ (s : Sheet) {got : Search} where
  pub nearest-found : (h none : List ℕ) (y t : ℕ) → got ≡ search (passes h none y) 0 (weights s.n 0 (t + 1 - 0)) → h ≡ H s → none ≡ []
      → got ≡ nearest s y t
  unfolding nearest
  nearest-found h none y t q e f =
      found_as h none y s.n 0 (t + 1 - 0) (t + 1) (λ z. eqb (products (H s) (y ⊕ z)) 0) q e f (omega arith) (passes-plain (H s) y)
