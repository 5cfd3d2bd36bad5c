-- Games where at most one vertex has a key.
use Rattle.std.proofs.Common.{◌≡◌, ◌≢◌, ℕ, ◌+◌, ◌*◌, ◌/◌, ◌<◌, ◌⊎◌, inl, inr, false, List, length, get_or, set, Option, None, refl, sym, ◌∙◌, arith}
use Rattle.std.proofs.lemmas.Bool.{cases_eq}
use Rattle.std.proofs.lemmas.List.{length-set, get_or-set_same, get_or-set_other}
use Rattle.event_list.specs.KeyOrder.{KeyParts}
use Rattle.event_heap.specs.Inner.Games.{beats, IsWinner, IsWon, IsPlayed}
use Rattle.event_heap.proofs.TournamentLaws.KeyLaws.{beats-irreflexive}
use Rattle.event_heap.proofs.TournamentLaws.Places.{never_above-zero}

-- no vertex but this one has a key
abbrev pub IsAlone : List (Option KeyParts) → ℕ → Type 0
IsAlone keys v = (u : ℕ) → u ≢ v → get_or keys u None ≡ None

-- a vertex wins where no other has a key
pub alone-wins : (keys : List (Option KeyParts)) (v left right : ℕ) → IsAlone keys v → (left ≡ v) ⊎ (right ≡ v) → IsWinner keys left right v
alone-wins keys v left right alone one =
    let loses : (u : ℕ) → beats (get_or keys u None) (get_or keys v None) ≡ false = λ u. elim (cases_eq u v) [
      | inl e ↦ rw e (beats-irreflexive (get_or keys v None))
      | inr n ↦ rw (alone u n) refl
    ] in
    record {
      either = elim one [ inl e ↦ inl (sym e) | inr e ↦ inr (sym e) ];
      left_loses = loses left;
      right_loses = loses right;
    }

-- one of the two below a place is the one that the place is above
pub either-below : (winners : List ℕ) (v place below : ℕ) → below / 2 ≡ place → get_or winners below 0 ≡ v → (get_or winners (2 * place) 0 ≡ v) ⊎ (get_or winners (2 * place + 1) 0 ≡ v)
either-below winners v place below h e = elim (cases_eq (2 * place) below) [
  | inl q ↦ inl (rw q e)
  | inr n ↦ let q : 2 * place + 1 ≡ below = omega arith in inr (rw q e)
]

pub alone-set_key : (keys : List (Option KeyParts)) (v : ℕ) (key : Option KeyParts) → IsAlone keys v → IsAlone (set keys v key) v
alone-set_key keys v key alone u n = get_or-set_other keys v u key None n ∙ alone u n

-- without keys the games stay won
pub played-clear : (keys : List (Option KeyParts)) (winners : List ℕ) (v : ℕ) → IsPlayed keys winners 0 → v < length keys → IsAlone keys v → IsPlayed (set keys v None) winners 0
played-clear keys winners v h l alone =
    let none : (u : ℕ) → get_or (set keys v None) u None ≡ None = λ u. elim (cases_eq u v) [
      | inl e ↦ rw e (get_or-set_same keys v None None l)
      | inr n ↦ alone-set_key keys v None alone u n
    ] in
    record {
      places = rw length-set h.places;
      vertices = λ place p. rw length-set (h.vertices place p);
      seats = λ u q. rw length-set (h.seats u (rw length-set at q));
      held = λ place p q. rw length-set (h.held place p q);
      games = λ place p q free.
          let won : IsWon keys winners place = h.games place p (rw length-set at q) (never_above-zero place p) in
          record {
            either = won.either;
            left_loses = rw (none (get_or winners (2 * place) 0)) refl;
            right_loses = rw (none (get_or winners (2 * place + 1) 0)) refl;
          };
    }
