use Rattle.std.proofs.Common.{refl}
use Rattle.std.specs.Fmt.{digits}
use Rattle.worked_reports.proofs.trials.models_have_sizes.Goals as goal

pub returns : goal.returns
unfolding digits
returns c = record {
  edges = refl;
  size = refl;
  nothing = refl;
  applications = refl;
  without_feed = refl;
}
