-- The length of the result's text is computed, and its numbers with it.
use Rattle.std.proofs.Common.{refl}
use Rattle.std.specs.Fmt.{digits}
use Rattle.worked_rules.proofs.twins.two_become_one.Goals as goal

pub returns-clause-takes : goal.returns-clause-takes
unfolding digits
returns-clause-takes c = refl
