use Rattle.std.proofs.Common.{refl}
use Rattle.std.specs.Fmt.{digits}
use Rattle.worked_reports.proofs.saved_answers.resuming_is_answered.Goals as goal

pub returns-clause-whole : goal.returns-clause-whole
unfolding digits
returns-clause-whole c = refl

pub returns-clause-budget : goal.returns-clause-budget
unfolding digits
returns-clause-budget c = refl

pub returns-clause-fault : goal.returns-clause-fault
unfolding digits
returns-clause-fault c = refl

pub returns-clause-below_the_clock : goal.returns-clause-below_the_clock
unfolding digits
returns-clause-below_the_clock c = refl

pub returns-clause-stop_time_before_events : goal.returns-clause-stop_time_before_events
unfolding digits
returns-clause-stop_time_before_events c = refl

pub returns-clause-is_a_bad_start : goal.returns-clause-is_a_bad_start
unfolding digits
returns-clause-is_a_bad_start c = refl
