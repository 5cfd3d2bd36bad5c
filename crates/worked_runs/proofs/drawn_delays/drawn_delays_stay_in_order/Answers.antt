-- The length of the result's canonical text is computed, and its numbers with it.
use Rattle.std.proofs.Common.{refl}
use Rattle.std.specs.Fmt.{digits}
use Rattle.model_core.specs.Rules.BoundsTable.{exact_bounds}
use Rattle.worked_runs.proofs.drawn_delays.drawn_delays_stay_in_order.Goals as goal

pub returns-clause-after : goal.returns-clause-after
unfolding digits exact_bounds
returns-clause-after c = refl
