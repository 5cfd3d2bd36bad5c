-- The length of the result's text is computed, and its numbers with it.
use Rattle.std.proofs.Common.{refl}
use Rattle.std.specs.Fmt.{digits}
use Rattle.model_core.specs.Rules.BoundsTable.{exact_bounds}
use Rattle.worked_rules.proofs.merge_halves.the_first_of_two_merges_is_taken.Goals as goal

pub returns : goal.returns
unfolding digits exact_bounds
returns c = refl
