use Rattle.std.proofs.Common.{ℕ, ◌<◌}
use Rattle.model_core.specs.Code.Views.{graph_of}
use Rattle.run_control.specs.Beginning.{fits_at}
use Rattle.model_core.specs.Run.History.{start_parameters}
use Rattle.run_control.proofs.starting_values.check_starts.Given as goal

abbrev pub invariant-loop-i : goal.invariant-loop-i
invariant-loop-i l = (k : ℕ) → k < l.i → fits_at (start_parameters (graph_of l.model)) l.starts k
