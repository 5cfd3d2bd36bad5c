use Rattle.std.proofs.Common.{refl}
use Rattle.rand_pcg.specs.Lcg.{state_after}
use Rattle.worked_runs.proofs.commuting.conflicts_matter.Goals as goal

pub returns : goal.returns
unfolding state_after
returns c = record {
  variables = refl;
  variables_turned = refl;
  streams = refl;
  streams_turned = refl;
  cancels = refl;
  cancels_turned = refl;
}
