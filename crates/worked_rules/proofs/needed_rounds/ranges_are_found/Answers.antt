-- The 17th round is the last that changes something.
use Rattle.std.proofs.Common.{refl, arith}
use Rattle.model_core.specs.Rules.BoundsTable.{exact_bounds, least_of, greatest_of}
use Rattle.worked_rules.proofs.needed_rounds.ranges_are_found.Goals as goal

pub returns-clause-found : goal.returns-clause-found
unfolding exact_bounds least_of greatest_of
returns-clause-found c = record { rounds = 17; few = omega arith; reached = refl; stays = refl }
