use Rattle.std.proofs.Common.{sym, ap, ◌∙◌, length, map}
use Rattle.model_core.specs.Run.Value.{value_of, place_of}
use Rattle.model_core.specs.Code.Views.{graph_of, expression_of, location_of}
use Rattle.sig_expr.proofs.TargetPlaces.{each_long, places_declared}
use Rattle.sig_expr.proofs.changes.set_several.Goals as goal

pub store_all-requires-clause-matched : goal.store_all-requires-clause-matched
store_all-requires-clause-matched c =
    ap length c.as_slice-2.ensures.value
    ∙ each_long (value_of (graph_of c.args.model.now) c.args.state.now c.args.clk) (map expression_of c.args.rights.now) c.put_values.new.values.items (sym c.in_ok-put_values.ensures)
    ∙ sym c.requires.possible.matched
    ∙ sym (each_long (place_of (graph_of c.args.model.now) c.args.state.now c.args.clk) (map location_of c.args.targets.now) c.put_places.new.places.items (sym c.in_ok-put_places.ensures))
    ∙ sym (ap length c.as_slice.ensures.value)

pub store_all-requires-clause-places : goal.store_all-requires-clause-places
store_all-requires-clause-places c =
    rw c.as_slice.ensures.value (places_declared (graph_of c.args.model.now) c.args.state.now c.args.clk (map location_of c.args.targets.now) c.put_places.new.places.items c.requires.possible.locations (sym c.in_ok-put_places.ensures))
