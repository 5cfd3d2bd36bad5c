-- Laws of winners: which vertex wins a game.
use Rattle.std.proofs.Common.{◌≡◌, ℕ, ◌+◌, ◌*◌, true, false, cond, List, get_or, Option, Some, None, refl, ◌⊎◌, inl, inr, arith}
use Rattle.std.proofs.lemmas.Bool.Decides.{nat_tests}
use Rattle.event_list.specs.KeyOrder.{KeyParts, comes_before}
use Rattle.event_heap.specs.Inner.Games.{beats, winner_of, IsWinner, IsWon}

comes-irreflexive : (a : KeyParts) → comes_before a a ≡ false
comes-irreflexive a = grind (arith, nat_tests)

comes-asymmetric : (a b : KeyParts) → comes_before a b ≡ true → comes_before b a ≡ false
comes-asymmetric a b h = grind (arith, nat_tests)

comes-transitive : (a b c : KeyParts) → comes_before a b ≡ false → comes_before b c ≡ false → comes_before a c ≡ false
comes-transitive a b c h k = grind (arith, nat_tests)

-- no key beats itself
pub beats-irreflexive : (a : Option KeyParts) → beats a a ≡ false
beats-irreflexive None = refl
beats-irreflexive (Some a) = comes-irreflexive a

pub beats-asymmetric : (a b : Option KeyParts) → beats a b ≡ true → beats b a ≡ false
beats-asymmetric None b h = cc
beats-asymmetric (Some a) None h = refl
beats-asymmetric (Some a) (Some b) h = comes-asymmetric a b h

-- if a doesn't beat b, and b doesn't beat c, then a doesn't beat c
pub unbeaten-transitive : (a b c : Option KeyParts) → beats a b ≡ false → beats b c ≡ false → beats a c ≡ false
unbeaten-transitive None b c h k = refl
unbeaten-transitive (Some a) None c h k = cc
unbeaten-transitive (Some a) (Some b) None h k = cc
unbeaten-transitive (Some a) (Some b) (Some c) h k = comes-transitive a b c h k

-- the winner of a game is one of the two vertices
winner-cases : (keys : List (Option KeyParts)) (a b : ℕ) → (winner_of keys a b ≡ a) ⊎ (winner_of keys a b ≡ b)
winner-cases keys a b =
    elim (beats (get_or keys b None) (get_or keys a None)) as (λ r. (cond r b a ≡ a) ⊎ (cond r b a ≡ b)) [ true ↦ inr refl | false ↦ inl refl ]

-- neither of the two beats the winner
winner-unbeaten_left : (keys : List (Option KeyParts)) (a b : ℕ) → beats (get_or keys a None) (get_or keys (winner_of keys a b) None) ≡ false
winner-unbeaten_left keys a b =
    elim (beats (get_or keys b None) (get_or keys a None)) as (λ r. beats (get_or keys b None) (get_or keys a None) ≡ r → beats (get_or keys a None) (get_or keys (cond r b a) None) ≡ false) [
      | true ↦ λ e. beats-asymmetric (get_or keys b None) (get_or keys a None) e
      | false ↦ λ e. beats-irreflexive (get_or keys a None)
    ] refl

winner-unbeaten_right : (keys : List (Option KeyParts)) (a b : ℕ) → beats (get_or keys b None) (get_or keys (winner_of keys a b) None) ≡ false
winner-unbeaten_right keys a b =
    elim (beats (get_or keys b None) (get_or keys a None)) as (λ r. beats (get_or keys b None) (get_or keys a None) ≡ r → beats (get_or keys b None) (get_or keys (cond r b a) None) ≡ false) [
      | true ↦ λ e. beats-irreflexive (get_or keys b None)
      | false ↦ λ e. e
    ] refl

-- the winner of a game may be written down as its winner
pub winner-wins : (keys : List (Option KeyParts)) (a b : ℕ) → IsWinner keys a b (winner_of keys a b)
winner-wins keys a b = record {
  either = winner-cases keys a b;
  left_loses = winner-unbeaten_left keys a b;
  right_loses = winner-unbeaten_right keys a b;
}

pub won-by_game : (keys : List (Option KeyParts)) (winners : List ℕ) (place : ℕ) → get_or winners place 0 ≡ winner_of keys (get_or winners (2 * place) 0) (get_or winners (2 * place + 1) 0) → IsWon keys winners place
won-by_game keys winners place e = rw e (winner-wins keys (get_or winners (2 * place) 0) (get_or winners (2 * place + 1) 0))
