use Rattle.std.proofs.Common.{◌≡◌, ◌+◌, length, map, drop}
use Rattle.std.specs.List.{flat_map}
use Rattle.model_core.specs.Run.Pending.{same_values}
use Rattle.model_core.specs.Code.Views.{watched_of}
use Rattle.sig_expr.specs.WatchedValues.{values_watched}
use Rattle.watch_trace.proofs.watched_cells.are_same.Given as goal

abbrev pub invariant-loop-watched : goal.invariant-loop-watched
invariant-loop-watched l =
    (same_values l.values (flat_map (values_watched l.state) (map watched_of l.watch)) ≡ same_values (drop l.from l.values) (flat_map (values_watched l.state) (map watched_of (drop l.watched-index l.watch))))
    × (l.from + length (flat_map (values_watched l.state) (map watched_of (drop l.watched-index l.watch))) ≡ length l.values)
