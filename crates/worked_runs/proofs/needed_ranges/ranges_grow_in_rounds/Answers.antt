-- The 17th round is the last that changes something.
use Rattle.std.proofs.Common.{refl, arith}
use Rattle.model_core.specs.Rules.BoundsTable.{exact_bounds}
use Rattle.worked_runs.proofs.needed_ranges.ranges_grow_in_rounds.Goals as goal

pub returns-clause-found : goal.returns-clause-found
unfolding exact_bounds
returns-clause-found c = record { rounds = 17; few = omega arith; reached = refl; stays = refl }
