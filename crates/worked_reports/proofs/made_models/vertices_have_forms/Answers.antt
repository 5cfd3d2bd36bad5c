use Rattle.std.proofs.Common.{refl}
use Rattle.std.specs.Fmt.{digits}
use Rattle.worked_reports.proofs.made_models.vertices_have_forms.Goals as goal

pub returns : goal.returns
unfolding digits
returns c = record {
  first = refl;
  second = refl;
  second_before_the_last = refl;
  second_of_the_last = refl;
  third = refl;
  fourth = refl;
  fourth_of_the_last = refl;
}
