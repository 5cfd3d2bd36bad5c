use Rattle.std.proofs.Common.{refl}
use Rattle.std.specs.Fmt.{digits}
use Rattle.worked_runs.proofs.histories.ends_have_lines.Goals as goal

pub returns : goal.returns
unfolding digits
returns c = record {
  ended = refl;
  stopped = refl;
  budget = refl;
  overflow = refl;
  division = refl;
  index = refl;
  range = refl;
  delay = refl;
}
