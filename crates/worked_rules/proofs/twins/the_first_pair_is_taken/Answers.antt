-- The length of the result's text is computed, and its numbers with it.
use Rattle.std.proofs.Common.{refl}
use Rattle.std.specs.Fmt.{digits}
use Rattle.worked_rules.proofs.twins.the_first_pair_is_taken.Goals as goal

pub returns-clause-by_the_first : goal.returns-clause-by_the_first
unfolding digits
returns-clause-by_the_first c = refl

pub returns-clause-then_by_the_second : goal.returns-clause-then_by_the_second
unfolding digits
returns-clause-then_by_the_second c = refl

pub returns-clause-with_parameters : goal.returns-clause-with_parameters
unfolding digits
returns-clause-with_parameters c = refl
