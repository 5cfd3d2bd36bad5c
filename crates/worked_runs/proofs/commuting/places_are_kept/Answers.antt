use Rattle.std.proofs.Common.{refl, arith}
use Rattle.worked_runs.proofs.commuting.places_are_kept.Goals as goal

pub returns : goal.returns
returns c = record {
  simultaneous = record {
    first_there = refl;
    second_there = refl;
    apart = omega arith;
    times = refl;
    priorities = refl;
    first_own = refl;
    second_own = refl;
  };
  not_in_conflict = refl;
  first_cancels = refl;
  second_cancels = refl;
}
