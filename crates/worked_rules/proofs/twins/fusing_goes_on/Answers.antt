-- Each pair is the first, and the last graph has none.
use Rattle.std.proofs.Common.{◌≡◌, None, refl}
use Rattle.std.specs.Fmt.{digits}
use Rattle.model_core.specs.EventGraph.{EventGraph}
use Rattle.model_core.specs.Rules.Fuse.{first_twins, Fused, no_twins, fuse_first}
use Rattle.worked_rules.proofs.twins.fusing_goes_on.Goals as goal

pub returns-clause-twice : goal.returns-clause-twice
unfolding digits
returns-clause-twice c = fuse_first 0 1 refl (fuse_first 0 1 refl (no_twins refl))

none_at_the_end : (g h : EventGraph) → Fused g h → first_twins h ≡ None
none_at_the_end g h (no_twins none) = none
none_at_the_end g h (fuse_first keep gone first later) = none_at_the_end _ h later

pub returns-clause-none_left : goal.returns-clause-none_left
returns-clause-none_left c = none_at_the_end
