-- The length of the result's text is computed, and its numbers with it.
use Rattle.std.proofs.Common.{refl}
use Rattle.std.specs.Fmt.{digits}
use Rattle.model_core.specs.Rules.BoundsTable.{exact_bounds}
use Rattle.worked_rules.proofs.merge_halves.each_half_of_meeting_at_once_fails_alone.Goals as goal

pub returns-clause-two_urgent : goal.returns-clause-two_urgent
unfolding digits exact_bounds
returns-clause-two_urgent c = refl

pub returns-clause-last_watched : goal.returns-clause-last_watched
unfolding digits exact_bounds
returns-clause-last_watched c = refl

pub returns-clause-another_cancelled : goal.returns-clause-another_cancelled
unfolding digits exact_bounds
returns-clause-another_cancelled c = refl

pub returns-clause-by_itself : goal.returns-clause-by_itself
unfolding digits exact_bounds
returns-clause-by_itself c = refl
