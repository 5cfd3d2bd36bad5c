use Rattle.std.proofs.Common.{◌≡◌, ◌≤◌, map}
use Rattle.std.specs.List.{range_with_len}
use Rattle.model_core.specs.Rules.MarkedPlaces.{rank}
use Rattle.marked_walks.proofs.staying_places.Staying.of.Given as goal

abbrev pub invariant-loop-place : goal.invariant-loop-place
invariant-loop-place l = record {
  counted : l.count ≤ l.place;
  numbers : l.numbers.items ≡ map (rank l.marks.items) (range_with_len 0 l.place);
  count : l.count ≡ rank l.marks.items l.place;
}
