use Rattle.std.proofs.Common.{refl}
use Rattle.std.specs.Fmt.{digits}
use Rattle.worked_reports.proofs.saved_answers.runs_are_answered.Goals as goal

pub returns-clause-budget : goal.returns-clause-budget
unfolding digits
returns-clause-budget c = refl

pub returns-clause-stop : goal.returns-clause-stop
unfolding digits
returns-clause-stop c = refl

pub returns-clause-fault : goal.returns-clause-fault
unfolding digits
returns-clause-fault c = refl

pub returns-clause-start : goal.returns-clause-start
unfolding digits
returns-clause-start c = refl
