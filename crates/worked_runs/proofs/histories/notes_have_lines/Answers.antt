use Rattle.std.proofs.Common.{refl}
use Rattle.std.specs.Fmt.{digits}
use Rattle.worked_runs.proofs.histories.notes_have_lines.Goals as goal

pub returns : goal.returns
unfolding digits
returns c = record {
  below_0 = refl;
  vertex = refl;
  truth_and_array = refl;
  false_is_a_word = refl;
  nothing_watched = refl;
}
