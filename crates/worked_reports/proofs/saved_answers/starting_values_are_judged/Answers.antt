use Rattle.std.proofs.Common.{refl}
use Rattle.std.specs.Fmt.{digits}
use Rattle.worked_reports.proofs.saved_answers.starting_values_are_judged.Goals as goal

pub returns : goal.returns
unfolding digits
returns c = record {
  ends_of_ranges = refl;
  first_outside = refl;
  second_outside = refl;
  second_above = refl;
  too_few = refl;
  too_many = refl;
}
