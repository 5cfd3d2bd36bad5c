use Rattle.std.proofs.Common.{refl}
use Rattle.std.specs.Fmt.{digits}
use Rattle.rand_pcg.specs.Lcg.{state_after}
use Rattle.worked_reports.proofs.made_models.numbers_make_models.Goals as goal

pub returns : goal.returns
unfolding digits state_after
returns c = record {
  counters = refl;
  gap = refl;
  of_two = refl;
}
