use Rattle.std.proofs.Common.{refl}
use Rattle.std.specs.Fmt.{digits}
use Rattle.worked_runs.proofs.snapshot_texts.saved_runs_have_texts.Goals as goal

pub returns : goal.returns
unfolding digits
returns c = record {
  of_the_clock = refl;
  each_line = refl;
  bare = refl;
  nothing_watched = refl;
  greatest_seed = refl;
}
