use Rattle.sig_expr.proofs.TargetPlaces.{place_is_there}
use Rattle.sig_expr.proofs.storing.store_at.Goals as goal

pub store-requires-clause-inside : goal.store-requires-clause-inside
store-requires-clause-inside c = place_is_there c.args.model.now c.args.state.now c.place.inside.var c.place.inside.index c.args.place c.requires.inside c.requires.place c.place.view_is
