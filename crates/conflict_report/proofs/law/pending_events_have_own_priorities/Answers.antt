use Rattle.model_core.specs.Run.History.{start}
use Rattle.conflict_report.proofs.OwnPriorities.{start_own, move_own, reached_own}
use Rattle.conflict_report.proofs.law.pending_events_have_own_priorities.Goals as goal

pub returns-clause-begins : goal.returns-clause-begins
returns-clause-begins c = start_own

pub returns-clause-goes_on : goal.returns-clause-goes_on
returns-clause-goes_on c = λ g seed until m later notes all e. move_own g seed until m later notes all e

pub returns-clause-reached : goal.returns-clause-reached
returns-clause-reached c = λ g seed until n starts r e. reached_own g seed until n (start g starts) r (start_own g starts) e
