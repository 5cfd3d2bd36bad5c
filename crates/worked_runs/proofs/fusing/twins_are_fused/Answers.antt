-- The lengths of both texts are computed, with their numbers.
use Rattle.std.proofs.Common.{refl}
use Rattle.std.specs.Fmt.{digits}
use Rattle.model_core.specs.Rules.Fuse.{no_twins, fuse_first}
use Rattle.worked_runs.proofs.fusing.twins_are_fused.Goals as goal

pub returns-clause-first : goal.returns-clause-first
unfolding digits
returns-clause-first c = refl

pub returns-clause-whole : goal.returns-clause-whole
unfolding digits
returns-clause-whole c = fuse_first 1 2 refl (no_twins refl)
