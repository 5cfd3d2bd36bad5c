-- The length of the result's text is computed, and its numbers with it.
use Rattle.std.proofs.Common.{refl}
use Rattle.std.specs.Fmt.{digits}
use Rattle.model_core.specs.Rules.BoundsTable.{exact_bounds}
use Rattle.worked_rules.proofs.merge_halves.merged_vertices_have_room.Goals as goal

pub returns-clause-as_many_edges : goal.returns-clause-as_many_edges
unfolding digits exact_bounds
returns-clause-as_many_edges c = refl

pub returns-clause-too_many_edges : goal.returns-clause-too_many_edges
unfolding digits exact_bounds
returns-clause-too_many_edges c = refl
