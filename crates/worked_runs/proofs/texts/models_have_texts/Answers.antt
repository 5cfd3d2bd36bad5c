use Rattle.std.proofs.Common.{refl}
use Rattle.std.specs.Fmt.{digits}
use Rattle.worked_runs.proofs.texts.models_have_texts.Goals as goal

pub returns : goal.returns
unfolding digits
returns c = record { desk = refl }
