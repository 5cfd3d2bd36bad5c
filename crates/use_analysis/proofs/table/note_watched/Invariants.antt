use Rattle.std.proofs.Common.{◌≡◌, map, drop}
use Rattle.model_core.specs.EventGraph.{watched_variables}
use Rattle.model_core.specs.Code.Views.{watched_of}
use Rattle.use_analysis.specs.declared.table.Use.TheVariants as kinds
use Rattle.use_analysis.specs.UseRows.{uses_row}
use Rattle.use_analysis.specs.Inner.Noting.{noted_all}
use Rattle.use_analysis.proofs.table.note_watched.Given as goal

abbrev pub invariant-loop-watched : goal.invariant-loop-watched
invariant-loop-watched l =
    noted_all kinds.Watched (watched_variables (map watched_of (drop l.watched-index l.watch))) (map uses_row l.rows.items)
    ≡ noted_all kinds.Watched (watched_variables (map watched_of l.watch)) (map uses_row l.initial.rows.items)
