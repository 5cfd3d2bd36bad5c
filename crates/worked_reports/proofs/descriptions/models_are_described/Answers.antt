use Rattle.std.proofs.Common.{refl}
use Rattle.std.specs.Fmt.{digits}
use Rattle.worked_reports.proofs.descriptions.models_are_described.Goals as goal

pub returns : goal.returns
unfolding digits
returns c = record {
  each_sentence = refl;
  nothing_declared = refl;
}
