use Rattle.run_laws.proofs.Leaving.{left_by_change-ok, left_by_changes-ok}
use Rattle.run_laws.proofs.changes_without_fault.changes_leave_their_result.Goals as goal

pub returns-clause-one : goal.returns-clause-one
returns-clause-one c = left_by_change-ok

pub returns-clause-all : goal.returns-clause-all
returns-clause-all c = left_by_changes-ok
