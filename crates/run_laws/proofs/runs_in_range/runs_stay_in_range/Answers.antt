use Rattle.run_laws.proofs.InRange.{starts_in_range, runs_keep_range}
use Rattle.run_laws.proofs.runs_in_range.runs_stay_in_range.Goals as goal

pub returns-clause-begins : goal.returns-clause-begins
returns-clause-begins c = starts_in_range

pub returns-clause-goes_on : goal.returns-clause-goes_on
returns-clause-goes_on c = runs_keep_range
