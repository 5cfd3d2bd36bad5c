-- Numbers in a text are computed.
use Rattle.std.proofs.Common.{refl}
use Rattle.std.specs.Fmt.{digits}
use Rattle.worked_runs.proofs.three_rules.applications_have_lines.Goals as goal

pub returns-clause-prune_and_settle : goal.returns-clause-prune_and_settle
unfolding digits
returns-clause-prune_and_settle c = refl
