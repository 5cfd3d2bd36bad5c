-- Places of a tournament, one above the other.
use Rattle.std.proofs.Common.{◌<◌, ◌≢◌, sym, ◌≡◌, ℕ, ◌/◌, ◌≤◌, ◌⊎◌, inl, inr, refl, arith}
use Rattle.std.proofs.lemmas.Bool.{cases_eq}
use Rattle.event_heap.specs.Inner.Games.{IsAbove}
use Rattle.event_heap.specs.Inner.Games.IsAbove.{itself, higher}

-- a place above another one has the lesser number
pub above-le : (a b : ℕ) → IsAbove a b → a ≤ b
above-le a _ itself = omega arith
above-le a b (higher _ h) = let k : a ≤ b / 2 = above-le a (b / 2) h in omega arith

-- no place is above place 0
pub never_above-zero : (place : ℕ) → 0 < place → IsAbove place 0 → ⊥
never_above-zero place p h = let l : place ≤ 0 = above-le place 0 h in omega arith

-- the place above a place is above what it was above
pub above-up : (a b : ℕ) → IsAbove a b → IsAbove (a / 2) b
above-up a _ itself = higher a itself
above-up a b (higher _ h) = higher b (above-up a (b / 2) h)

-- it is above the place above, too
pub above-both_up : (a b : ℕ) → IsAbove a b → IsAbove (a / 2) (b / 2)
above-both_up a _ itself = itself
above-both_up a b (higher _ h) = higher (b / 2) (above-both_up a (b / 2) h)

-- a place above another one is this one, or above the place above
pub above-cases : (a b : ℕ) → IsAbove a b → (a ≡ b) ⊎ IsAbove a (b / 2)
above-cases a _ itself = inl refl
above-cases a b (higher _ h) = inr h

-- of two places above a third, one is above the other
pub above-comparable : (a b c : ℕ) → IsAbove a c → IsAbove b c → IsAbove a b ⊎ IsAbove b a
above-comparable a b _ itself k = inr k
above-comparable a b c (higher _ h) itself = inl (higher c h)
above-comparable a b c (higher _ h) (higher _ k) = above-comparable a b (c / 2) h k

not_above-sibling : (a b : ℕ) → 0 < a → a / 2 ≡ b / 2 → a ≢ b → IsAbove a b → ⊥
not_above-sibling a b p e n h = elim (above-cases a b h) [
  | inl q ↦ n q
  | inr k ↦ let l : a ≤ b / 2 = above-le a (b / 2) k in omega arith
]

-- two neighbours aren't above the same place
pub neighbours-same : (a b c : ℕ) → 0 < a → 0 < b → a / 2 ≡ b / 2 → IsAbove a c → IsAbove b c → a ≡ b
neighbours-same a b c p q e h k = elim (cases_eq a b) [
  | inl same ↦ same
  | inr n ↦ elim (above-comparable a b c h k) [
    | inl up ↦ absurd (not_above-sibling a b p e n up)
    | inr up ↦ let m : b ≢ a = λ f. n (sym f) in absurd (not_above-sibling b a q (sym e) m up)
  ]
]
