use Rattle.std.proofs.Common.{refl}
use Rattle.std.specs.Fmt.{digits}
use Rattle.worked_reports.proofs.trials.trials_have_summaries.Goals as goal

pub returns : goal.returns
unfolding digits
returns c = record {
  of_a_run = refl;
  of_a_budget = refl;
  of_two = refl;
}
