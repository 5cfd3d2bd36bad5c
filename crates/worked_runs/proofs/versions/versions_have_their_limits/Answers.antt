use Rattle.std.proofs.Common.{refl}
use Rattle.std.specs.Fmt.{digits}
use Rattle.worked_runs.proofs.versions.versions_have_their_limits.Goals as goal

pub returns-clause-first : goal.returns-clause-first
unfolding digits
returns-clause-first c = refl

pub returns-clause-second : goal.returns-clause-second
unfolding digits
returns-clause-second c = refl
