use Rattle.std.proofs.Common.{refl}
use Rattle.std.specs.Fmt.{digits}
use Rattle.worked_runs.proofs.versions.texts_say_a_version_where_they_need_it.Goals as goal

pub returns-clause-without : goal.returns-clause-without
unfolding digits
returns-clause-without c = refl

pub returns-clause-line : goal.returns-clause-line
unfolding digits
returns-clause-line c = refl
