-- The games are played up to the place, and the doublings that are left bound the ticks.
use Rattle.std.proofs.Common.{ℕ, ◌+◌, ◌^◌, ◌<◌, ◌≤◌, length}
use Rattle.event_heap.specs.Inner.Games.{IsReplayed}
use Rattle.event_heap.proofs.games.play.Given as goal

abbrev pub invariant-loop-place : goal.invariant-loop-place
invariant-loop-place g l = record {
  within : l.place < length l.keys;
  replayed : IsReplayed l.keys l.winners l.vertex l.place;
  ticks : (d : ℕ) → length l.keys ≤ 2 ^ d → (left : ℕ) × (l.place < 2 ^ left) × (l.steps + left ≤ l.initial.steps + d);
}

abbrev pub decreases-loop-place : goal.decreases-loop-place
decreases-loop-place g l = l.place
