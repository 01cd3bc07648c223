-- What a lent room holds after a call, from what the call told: a refusal leaves it, an answer has put the new rows there. And a write to a slot leaves the page's length.
-- For the calls that answer in lent rooms, and for pages. Assumes nothing.
use mathlib.Core.Path.{◌≡◌, refl, ap}
use mathlib.Core.List.{List}
use Prim.Native.Nat.{ℕ}
use lib.ListN.{length, get_or, length-set}
use Rattle.paper.specs.Page.{page_after_write}
use Rattle.paper.specs.Refusals.{Told, answer, more, refusal, leaves}

module _ {told : Told} (new old : List ℕ) where
  pub room-left : {number : ℕ} {given : List ℕ} → refusal number given ≡ told → old ≡ leaves told new old
  room-left e = ap (λ (t : Told). leaves t new old) e

  pub room-filled : {values : List ℕ} → answer values ≡ told → new ≡ leaves told new old
  room-filled e = ap (λ (t : Told). leaves t new old) e

-- a write to a slot leaves the page's length, whatever it told
pub length-kept : (page : List ℕ) (slot : ℕ) (told : Told) → length (page_after_write told page slot) ≡ length page
length-kept page slot (answer values) = length-set page slot (get_or values 0 0)
length-kept page slot (more values) = refl
length-kept page slot (refusal number given) = refl
