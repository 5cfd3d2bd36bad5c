use Rattle.std.proofs.Common.{arith}
use Rattle.model_core.specs.declared.model.Watch.TheVariants as things
use Rattle.model_core.specs.Code.Views.{watched_of}
use Rattle.sig_expr.specs.WatchedValues.{values_watched}
use Rattle.watch_trace.proofs.ValuesTaken.{none_taken, place_fits, one_taken, whole_taken, whole_is_new}
use Rattle.watch_trace.proofs.watched_cells.take_values.Goals as goal

pub loop-watched-init : goal.loop-watched-init
loop-watched-init c = none_taken (values_watched c.args.state.now) watched_of c.args.watch.now c.args.values.now c.requires

pub slice_bounds-replace-end : goal.slice_bounds-replace-end
slice_bounds-replace-end c =
    place_fits (values_watched c.args.state.now) watched_of c.args.watch.now c.loop-watched.watched-index (things.Variable 0) c.loop-watched-test.true c.args.values.now c.loop-watched.values c.values_watched-cells.result.now c.loop-watched.from c.loop-watched.new c.loop-watched.invariant c.values_watched-cells.ensures

pub loop-watched-preserved : goal.loop-watched-preserved
loop-watched-preserved c =
    one_taken (values_watched c.args.state.now) watched_of c.args.watch.now c.loop-watched.watched-index (things.Variable 0) c.loop-watched-test.true c.args.values.now c.loop-watched.values c.values_watched-cells.result.now c.loop-watched.from c.loop-watched.new c.loop-watched.invariant c.values_watched-cells.ensures
    c.replace-replaced.new.place c.replace-replaced.result c.replace-replaced.ensures.put c.replace-replaced.ensures.new

pub returns-clause-taken : goal.returns-clause-taken
returns-clause-taken c = whole_taken (values_watched c.args.state.now) watched_of c.args.watch.now c.loop-watched.watched-index c.loop-watched.from c.args.values.now c.loop-watched.values c.loop-watched.new (omega (arith, c.loop-watched-test.false)) c.loop-watched.invariant

pub returns-clause-new : goal.returns-clause-new
returns-clause-new c = whole_is_new (values_watched c.args.state.now) watched_of c.args.watch.now c.loop-watched.watched-index c.loop-watched.from c.args.values.now c.loop-watched.values c.loop-watched.new (omega (arith, c.loop-watched-test.false)) c.loop-watched.invariant
