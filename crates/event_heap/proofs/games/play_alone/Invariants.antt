-- The vertex is at the place below, and the games are played up to the place.
use Rattle.std.proofs.Common.{◌≡◌, ℕ, ◌/◌, ◌<◌, length, get_or}
use Rattle.event_heap.specs.Inner.Games.{IsReplayed}
use Rattle.event_heap.proofs.games.play_alone.Given as goal

abbrev pub invariant-loop-place : goal.invariant-loop-place
invariant-loop-place l = record {
  within : l.place < length l.keys;
  replayed : IsReplayed l.keys l.winners l.vertex l.place;
  below : (below : ℕ) × (below / 2 ≡ l.place) × (get_or l.winners below 0 ≡ l.vertex);
}

abbrev pub decreases-loop-place : goal.decreases-loop-place
decreases-loop-place l = l.place
