use Rattle.std.proofs.Common.{refl}
use Rattle.std.specs.Fmt.{digits}
use Rattle.rand_pcg.specs.Lcg.{state_after}
use Rattle.worked_reports.proofs.made_models.words_make_vertices.Goals as goal

pub returns : goal.returns
unfolding digits state_after
returns c = record {
  counter_of_the_first = refl;
  form_of_the_first = refl;
  vertex_of_the_first = refl;
  counter_of_the_second = refl;
  form_of_the_second = refl;
  vertex_of_the_second = refl;
  first = refl;
  second = refl;
  one_of_100 = refl;
}
