use Rattle.std.proofs.Common.{refl}
use Rattle.std.specs.Fmt.{digits}
use Rattle.worked_runs.proofs.static_rules.models_break_no_rule.Goals as goal

pub returns-clause-faults : goal.returns-clause-faults
unfolding digits
returns-clause-faults c = refl
