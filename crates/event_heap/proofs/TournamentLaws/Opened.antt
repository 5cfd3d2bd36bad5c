-- Games between vertices without keys.
use Rattle.std.proofs.Common.{◌≡◌, ℕ, suc, zero, ◌+◌, ◌*◌, ◌/◌, ◌-◌, ◌≤◌, ◌<◌, inl, inr, List, length, get_or, replicate, Option, None, refl, arith}
use Rattle.std.proofs.lemmas.Bool.{cases_lt}
use Rattle.std.proofs.lemmas.List.{length-replicate, get_or-replicate, get_or_past}
use Rattle.event_list.specs.KeyOrder.{KeyParts}
use Rattle.event_heap.specs.Inner.Games.{IsAbove, IsPlayed}
use Rattle.event_heap.specs.Inner.Games.IsAbove.{itself}
use Rattle.event_heap.specs.Inner.Opening.{IsOpened}
use Rattle.event_heap.proofs.TournamentLaws.Places.{above-up}

-- each place holds a vertex below it
held-opened : (n : ℕ) (winners : List ℕ) → IsOpened n winners 1 → (fuel place : ℕ) → length winners ≤ place + fuel → 0 < place → place < length winners → IsAbove place (n + get_or winners place 0)
held-opened n winners h zero place f p l = absurd (omega arith)
held-opened n winners h (suc fuel) place f p l = elim (cases_lt place n) [
  | inl game ↦
      let half : 2 * place / 2 ≡ place = omega arith in
      let left : IsAbove (2 * place) (n + get_or winners (2 * place) 0) = held-opened n winners h fuel (2 * place) (omega arith) (omega arith) (omega (arith, h.seated.places)) in
      rw (h.games place (omega arith) game) (rw half at (above-up (2 * place) (n + get_or winners (2 * place) 0) left))
  | inr seat ↦
      let v : n + (place - n) ≡ place = omega arith in
      let e : get_or winners place 0 ≡ place - n = rw v at (h.seated.seats (place - n) (omega (arith, h.seated.places))) in
      rw (e, v) itself
]

no_key : (n v : ℕ) → get_or (replicate n (let none : Option KeyParts = None in none)) v None ≡ None
no_key n v = elim (cases_lt v n) [
  | inl l ↦ get_or-replicate n v None None l
  | inr l ↦ get_or_past (replicate n None) v None (rw length-replicate l)
]

pub opened-played : (n : ℕ) (winners : List ℕ) → IsOpened n winners 1 → IsPlayed (replicate n None) winners 0
opened-played n winners h = record {
  places = rw length-replicate h.seated.places;
  vertices = λ place p. rw length-replicate (h.seated.within place p);
  seats = λ v q. rw length-replicate (h.seated.seats v (rw length-replicate at q));
  held = λ place p q. rw length-replicate (held-opened n winners h (length winners) place (omega arith) p q);
  games = λ place p q _. record {
    either = inl (h.games place (omega arith) (rw length-replicate at q));
    left_loses = rw (no_key n (get_or winners (2 * place) 0)) refl;
    right_loses = rw (no_key n (get_or winners (2 * place + 1) 0)) refl;
  };
}
