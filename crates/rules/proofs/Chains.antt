-- What one rule and those after it say, chained.
-- For the order of refusals, and for what an answer says. Assumes nothing.
use mathlib.Core.Logic.{◌⊎◌, inl, inr, ◌↔◌}

-- what one rule and those after it say, with what they say made plain: two, three and four in all
module _ {P A B Q : Type 0} (first : P ↔ (A × Q)) where
  pub then-1 : (Q ↔ B) → P ↔ (A × B)
  then-1 i = (λ p. let a = first.0 p in (a.0, i.0 a.1), λ c. first.1 (c.0, i.1 c.1))

  pub then-2 : {C R : Type 0} → (Q ↔ (B × R)) → (R ↔ C) → P ↔ (A × B × C)
  then-2 i j = (
    λ p. let a = first.0 p in let b = i.0 a.1 in (a.0, b.0, j.0 b.1),
    λ c. first.1 (c.0, i.1 (c.1, j.1 c.2)),
  )

  pub then-3 : {C D R S : Type 0} → (Q ↔ (B × R)) → (R ↔ (C × S)) → (S ↔ D) → P ↔ (A × B × C × D)
  then-3 i j k = (
    λ p. let a = first.0 p in let b = i.0 a.1 in let c = j.0 b.1 in (a.0, b.0, c.0, k.0 c.1),
    λ c. first.1 (c.0, i.1 (c.1, j.1 (c.2, k.1 c.3))),
  )

-- the last of four said otherwise
pub last-3 : {P A B C D E : Type 0} → P ↔ (A × B × C × D) → (D ↔ E) → P ↔ (A × B × C × E)
last-3 i j = (λ p. let a = i.0 p in (a.0, a.1, a.2, j.0 a.3), λ c. i.1 (c.0, c.1, c.2, j.1 c.3))

-- where a later rule may tell the same: what breaks this one, what passes it and what the later one says, made plain
pub or_else : {A A' B B' C C' P : Type 0} → P ↔ (A ⊎ (B × C)) → A ↔ A' → B ↔ B' → C ↔ C' → P ↔ (A' ⊎ (B' × C'))
or_else i a b c = (
  λ e. elim (i.0 e) [ inl q ↦ inl (a.0 q) | inr q ↦ inr (b.0 q.0, c.0 q.1) ],
  λ q. i.1 (elim q [ inl p ↦ inl (a.1 p) | inr p ↦ inr (b.1 p.0, c.1 p.1) ]),
)
