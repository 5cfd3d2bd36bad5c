use Rattle.std.proofs.Common.{◌≡◌, ◌≤◌, ◌++◌, length, map, drop}
use Rattle.model_core.specs.Code.Views.{graph_of, watched_of}
use Rattle.model_core.specs.Code.WrittenViews.{written_signed}
use Rattle.model_core.specs.Saved.Cells.{cell_variables, variables_watched}
use Rattle.model_core.specs.Saved.GoodSnapshots.{signed_values, fit_variables}
use Rattle.snapshot_text.proofs.values.watched_values_of.Given as goal

abbrev pub invariant-loop-watch : goal.invariant-loop-watch
invariant-loop-watch l =
    let g = graph_of l.model in
    (fit_variables (cell_variables (variables_watched g (map watched_of (drop l.watch-index l.model.watch)))) (map written_signed (drop l.from l.values)) ≡ fit_variables (cell_variables (variables_watched g g.watch)) (map written_signed l.values))
    × (l.all.items ++ signed_values (map written_signed (drop l.from l.values)) ≡ signed_values (map written_signed l.values))
    × (l.from ≤ length l.values)
