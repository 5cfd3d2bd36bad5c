use Rattle.std.proofs.Common.{◌≡◌, not}
use Rattle.std.specs.Prelude.{filter}
use Rattle.std.specs.List.{range_with_len}
use Rattle.model_core.specs.Rules.MarkedPlaces.{is_marked}
use Rattle.marked_walks.proofs.marks.unmarked.Given as goal

abbrev pub invariant-loop-place : goal.invariant-loop-place
invariant-loop-place l = l.places.items ≡ filter (λ k. not (is_marked l.marks k)) (range_with_len 0 l.place)
