use Rattle.std.proofs.Common.{sym, ◌∙◌}
use Rattle.model_core.specs.Code.Views.{watched_of}
use Rattle.sig_expr.specs.WatchedValues.{values_watched}
use Rattle.watch_trace.proofs.ValuesAlong.{they_differ, so_far_same}
use Rattle.watch_trace.proofs.watched_cells.are_same.Goals as goal

pub returns-then-ne : goal.returns-then-ne
returns-then-ne c =
    they_differ (values_watched c.args.state.now) watched_of c.args.watch.now c.loop-watched.watched-index _ c.loop-watched-test.true c.args.values.now c.values_watched-cells.result.now c.loop-watched.from _
    c.values_watched-cells.ensures c.loop-watched.invariant.0 c.loop-watched.invariant.1 (sym c.if-ne.true ∙ c.ne.ensures)

pub loop-watched-preserved : goal.loop-watched-preserved
loop-watched-preserved c =
    so_far_same (values_watched c.args.state.now) watched_of c.args.watch.now c.loop-watched.watched-index _ c.loop-watched-test.true c.args.values.now c.values_watched-cells.result.now c.loop-watched.from _
    c.values_watched-cells.ensures c.loop-watched.invariant.0 c.loop-watched.invariant.1 (sym c.if-ne.false ∙ c.ne.ensures)
