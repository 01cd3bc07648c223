-- The searches of the two measurements are the one search of the listing, with the test that each asks for.
-- For d0 and d1. Assumes nothing.
use mathlib.Core.Path.{◌≡◌, sym, subst}
use mathlib.Core.Bool.{not, ◌&&◌}
use mathlib.Core.List.{List, []}
use Prim.Native.Nat.{ℕ, ◌+◌, ◌-◌, ◌≤◌, ◌<◌}
use native.Mathlib.Omega.{arith}
use lib.Count.{ones}
use lib.Dec.{eqb}
use lib.ListN.{length}
use Rattle.paper.specs.Words.{products}
use Rattle.paper.specs.Listing.{Search, found, weights, search}
use Rattle.paper.specs.Plate.{search_d0, search_d1}
use Rattle.paper.specs.Sheet.{Sheet, G0, H, M}
use Rattle.listing.specs.Searches.{passes}
use Rattle.listing.proofs.Searched.{found_first}
use Rattle.listing.proofs.Tests.{passes-zero, passes-stirred, found_as}

-- n is the sheet's, and g, h and m are the rows of its parts
module _ (s : Sheet) (n : ℕ) {got : Search} where
  pub masked_found : (g none : List ℕ) (cap : ℕ) → got ≡ search (passes g none 0) 0 (weights n 1 (cap + 1 - 1)) → n ≡ s.n → g ≡ G0 s → none ≡ []
      → got ≡ search_d0 s cap
  unfolding search_d0
  masked_found g none cap q m e f =
      found_as g none 0 s.n 1 (cap + 1 - 1) cap (λ z. eqb (products (G0 s) z) 0) (subst (λ (i : ℕ). got ≡ search (passes g none 0) 0 (weights i 1 (cap + 1 - 1))) m q) e f (omega arith) (passes-zero (G0 s))

  pub hidden_found : (h m : List ℕ) (cap : ℕ) → got ≡ search (passes h m 0) 0 (weights n 1 (cap + 1 - 1)) → n ≡ s.n → h ≡ H s → m ≡ M s
      → 0 < length (M s) → got ≡ search_d1 s cap
  unfolding search_d1
  hidden_found h m cap q own e f l =
      found_as h m 0 s.n 1 (cap + 1 - 1) cap (λ z. eqb (products (H s) z) 0 && not (eqb (products (M s) z) 0)) (subst (λ (i : ℕ). got ≡ search (passes h m 0) 0 (weights i 1 (cap + 1 - 1))) own q) e f (omega arith)
      (λ z. passes-stirred (H s) (M s) z l)

-- what is found for d1 has a cell, since the list begins at weight 1
pub hidden-some : (s : Sheet) (cap : ℕ) {z tried : ℕ} → found z tried ≡ search_d1 s cap → 1 ≤ ones z
unfolding search_d1
hidden-some s c e = (found_first _ s.n 1 c (sym e)).low
