use Rattle.std.proofs.Common.{rules, ◌∙◌, get_or, pos, w64}
use Rattle.std.proofs.lemmas.Int.{to_z-of_z}
use Rattle.model_core.specs.Code.Views.{graph_of}
use Rattle.run_snapshot.proofs.StoredCells.{none_put, all_put, still_there, has_place, one_put}
use Rattle.run_snapshot.proofs.parts_from_snapshot.put_variable.Goals as goal

pub loop-i-init : goal.loop-i-init
loop-i-init c = none_put (graph_of c.args.model.now) c.args.state.now c.args.var c.args.values.now c.requires.exists c.requires.matched c.requires.inside

pub store-requires-clause-exists : goal.store-requires-clause-exists
store-requires-clause-exists c = still_there (graph_of c.args.model.now) c.args.state.now c.args.var c.args.values.now c.requires.exists c.requires.matched c.requires.inside c.loop-i.state c.loop-i.i c.loop-i.invariant c.loop-i-test.true

pub store-requires-clause-inside : goal.store-requires-clause-inside
store-requires-clause-inside c = has_place (graph_of c.args.model.now) c.args.state.now c.args.var c.args.values.now c.requires.exists c.requires.matched c.requires.inside c.loop-i.state c.loop-i.i c.loop-i.invariant c.loop-i-test.true

pub unwrap-requires : goal.unwrap-requires
unwrap-requires c =
    let stores = rw (to_z-of_z w64 (get_or c.args.values.now c.loop-i.i (pos 0)) (search rules)) at c.store.ensures.stores in
    (one_put (graph_of c.args.model.now) c.args.state.now c.args.var c.args.values.now c.requires.exists c.requires.matched c.requires.inside c.loop-i.state c.loop-i.i c.loop-i.invariant c.loop-i-test.true (pos 0) c.store.new.state c.store.result stores).0

pub loop-i-preserved : goal.loop-i-preserved
loop-i-preserved c =
    let stores = rw (to_z-of_z w64 (get_or c.args.values.now c.loop-i.i (pos 0)) (search rules)) at c.store.ensures.stores in
    (one_put (graph_of c.args.model.now) c.args.state.now c.args.var c.args.values.now c.requires.exists c.requires.matched c.requires.inside c.loop-i.state c.loop-i.i c.loop-i.invariant c.loop-i-test.true (pos 0) c.store.new.state c.store.result stores).1

pub returns : goal.returns
returns c = c.loop-i.invariant ∙ all_put (graph_of c.args.model.now) c.args.state.now c.args.var c.args.values.now c.requires.exists c.requires.matched c.requires.inside c.loop-i.i c.loop-i-test.false
