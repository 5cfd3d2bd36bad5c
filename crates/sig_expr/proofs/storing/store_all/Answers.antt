use Rattle.std.proofs.Common.{rules, sym, ◌∙◌, arith, get_or, pos, w64}
use Rattle.std.proofs.lemmas.Int.{to_z-of_z}
use Rattle.model_core.specs.Code.Views.{graph_of}
use Rattle.run_laws.proofs.Stores.{stored_more, stored_fault, stored_all}
use Rattle.sig_expr.proofs.storing.store_all.Goals as goal

pub returns-in_err-store_at-clause-stores : goal.returns-in_err-store_at-clause-stores
returns-in_err-store_at-clause-stores c =
    let stores = rw (to_z-of_z w64 (get_or c.args.values.now c.loop-i.i (pos 0)) (search rules), c.in_err-store_at.was) at c.store_at.ensures.stores in
    let faults = stored_fault (graph_of c.args.model.now) c.args.places.now c.args.values.now c.args.state.now c.loop-i.i c.index-places-i.result c.loop-i.state _ (omega arith) (omega (arith, c.requires.matched)) c.index-places-i.is (sym stores) c.loop-i.invariant.stored in
    search (rules, faults.makes)

pub returns-in_err-store_at-clause-left : goal.returns-in_err-store_at-clause-left
returns-in_err-store_at-clause-left c =
    let stores = rw (to_z-of_z w64 (get_or c.args.values.now c.loop-i.i (pos 0)) (search rules), c.in_err-store_at.was) at c.store_at.ensures.stores in
    (rw c.in_err-store_at.was at c.store_at.ensures.fault)
    ∙ sym (stored_fault (graph_of c.args.model.now) c.args.places.now c.args.values.now c.args.state.now c.loop-i.i c.index-places-i.result c.loop-i.state _ (omega arith) (omega (arith, c.requires.matched)) c.index-places-i.is (sym stores) c.loop-i.invariant.stored).leaves

pub loop-i-preserved : goal.loop-i-preserved
loop-i-preserved c =
    let stores = rw (to_z-of_z w64 (get_or c.args.values.now c.loop-i.i (pos 0)) (search rules), c.in_ok-store_at.was) at c.store_at.ensures.stores in
    record {
      stored = stored_more (graph_of c.args.model.now) c.args.places.now c.args.values.now c.args.state.now c.loop-i.i c.index-places-i.result c.loop-i.state c.store_at.new.state (omega arith) (omega (arith, c.requires.matched)) c.index-places-i.is (sym stores) c.loop-i.invariant.stored;
      inside = c.store_at.ensures.stays_in_range;
    }

pub returns-clause-stores : goal.returns-clause-stores
returns-clause-stores c = sym (stored_all (graph_of c.args.model.now) c.args.places.now c.args.values.now c.args.state.now c.loop-i.i c.loop-i.state (omega (arith, c.requires.matched)) c.loop-i.invariant.stored).0

pub returns-clause-left : goal.returns-clause-left
returns-clause-left c = sym (stored_all (graph_of c.args.model.now) c.args.places.now c.args.values.now c.args.state.now c.loop-i.i c.loop-i.state (omega (arith, c.requires.matched)) c.loop-i.invariant.stored).1
