use Rattle.std.proofs.Common.{refl}
use Rattle.std.specs.Fmt.{digits}
use Rattle.worked_reports.proofs.comparisons.two_models_are_compared.Goals as goal

pub returns : goal.returns
unfolding digits
returns c = record {
  same = refl;
  declared = refl;
  forms_before_runs = refl;
  a_run = refl;
  no_run = refl;
  starting_values = refl;
}
