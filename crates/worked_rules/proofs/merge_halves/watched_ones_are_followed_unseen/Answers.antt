-- The length of the result's text is computed, and its numbers with it.
use Rattle.std.proofs.Common.{refl}
use Rattle.std.specs.Fmt.{digits}
use Rattle.model_core.specs.Rules.BoundsTable.{exact_bounds}
use Rattle.worked_rules.proofs.merge_halves.watched_ones_are_followed_unseen.Goals as goal

pub returns-clause-writes : goal.returns-clause-writes
unfolding digits exact_bounds
returns-clause-writes c = refl

pub returns-clause-at_the_place_of_a_vertex : goal.returns-clause-at_the_place_of_a_vertex
unfolding digits exact_bounds
returns-clause-at_the_place_of_a_vertex c = refl

pub returns-clause-edges : goal.returns-clause-edges
unfolding digits exact_bounds
returns-clause-edges c = refl

pub returns-clause-changes : goal.returns-clause-changes
unfolding digits exact_bounds
returns-clause-changes c = refl

pub returns-clause-gives : goal.returns-clause-gives
unfolding digits exact_bounds
returns-clause-gives c = refl
