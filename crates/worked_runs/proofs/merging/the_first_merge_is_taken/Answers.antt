-- The length of the result's canonical text is computed, and its numbers with it.
use Rattle.std.proofs.Common.{refl}
use Rattle.std.specs.Fmt.{digits}
use Rattle.model_core.specs.Rules.BoundsTable.{exact_bounds}
use Rattle.worked_runs.proofs.merging.the_first_merge_is_taken.Goals as goal

pub returns-clause-last_two : goal.returns-clause-last_two
unfolding digits exact_bounds
returns-clause-last_two c = refl

pub returns-clause-of_bank : goal.returns-clause-of_bank
unfolding digits exact_bounds
returns-clause-of_bank c = refl
