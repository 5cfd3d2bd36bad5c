use Rattle.model_core.specs.Code.Views.{watched_of}
use Rattle.sig_expr.specs.WatchedValues.{values_watched}
use Rattle.watch_trace.proofs.ValuesTaken.{TakenAlong}
use Rattle.watch_trace.proofs.watched_cells.take_values.Given as goal

abbrev pub invariant-loop-watched : goal.invariant-loop-watched
invariant-loop-watched l = TakenAlong (values_watched l.state) watched_of l.watch l.watched-index l.from l.initial.values l.values l.new
