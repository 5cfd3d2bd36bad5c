-- The length of the result's text is computed, and its numbers with it.
use Rattle.std.proofs.Common.{refl}
use Rattle.std.specs.Fmt.{digits}
use Rattle.worked_rules.proofs.twins.each_half_of_fuse_fails_alone.Goals as goal

pub returns-clause-keep_cancelled : goal.returns-clause-keep_cancelled
unfolding digits
returns-clause-keep_cancelled c = refl

pub returns-clause-gone_cancelled : goal.returns-clause-gone_cancelled
unfolding digits
returns-clause-gone_cancelled c = refl

pub returns-clause-other_cancelled : goal.returns-clause-other_cancelled
unfolding digits
returns-clause-other_cancelled c = refl

pub returns-clause-edges_of_another : goal.returns-clause-edges_of_another
unfolding digits
returns-clause-edges_of_another c = refl
