use Rattle.std.proofs.Common.{◌≡◌, ◌++◌, map, take, drop, All}
use Rattle.model_core.specs.Run.History.{watched_values}
use Rattle.model_core.specs.Code.Views.{graph_of, watched_of}
use Rattle.tally_report.specs.Inner.Sums.{IsSmall}
use Rattle.tally_report.specs.Inner.Sums.{sum_at}
use Rattle.tally_report.proofs.sums.take_values.Given as goal

abbrev pub invariant-loop-i : goal.invariant-loop-i
invariant-loop-i l =
    (l.sums.items ≡ map (sum_at (graph_of l.model) (watched_values (map watched_of l.model.watch) l.state) l.since l.time) (take l.i l.initial.sums.items) ++ drop l.i l.initial.sums.items)
    × All (λ s. IsSmall l.time s.item) (take l.i l.sums.items)
