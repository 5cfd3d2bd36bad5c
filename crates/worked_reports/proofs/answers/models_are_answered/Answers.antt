use Rattle.std.proofs.Common.{refl}
use Rattle.std.specs.Fmt.{digits}
use Rattle.worked_reports.proofs.answers.models_are_answered.Goals as goal

pub returns : goal.returns
unfolding digits
returns c = record {
  check = refl;
  print = refl;
  uses = refl;
  conflicts = refl;
  describe = refl;
  run = refl;
  run_at_its_budget = refl;
  save = refl;
}
