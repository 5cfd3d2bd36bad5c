use Rattle.std.proofs.Common.{refl}
use Rattle.std.specs.Fmt.{digits}
use Rattle.worked_runs.proofs.histories.histories_have_texts.Goals as goal

pub returns : goal.returns
unfolding digits
returns c = record {
  stops = refl;
  runs_out = refl;
  fails = refl;
  fails_at_once = refl;
  watches_a_vertex = refl;
}
