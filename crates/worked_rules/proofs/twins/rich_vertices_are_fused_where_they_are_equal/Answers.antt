-- The length of the result's text is computed, and its numbers with it.
use Rattle.std.proofs.Common.{refl}
use Rattle.std.specs.Fmt.{digits}
use Rattle.worked_rules.proofs.twins.rich_vertices_are_fused_where_they_are_equal.Goals as goal

pub returns-clause-equal : goal.returns-clause-equal
unfolding digits
returns-clause-equal c = refl
