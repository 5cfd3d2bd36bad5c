use Rattle.std.proofs.Common.{w64}
use Rattle.std.proofs.lemmas.Int.{to_z-of_z}
use Rattle.model_core.specs.Code.Views.{graph_of}
use Rattle.sig_expr.proofs.StoreStays.{store_stays}
use Rattle.sig_expr.proofs.storing.store.Goals as goal

pub returns-clause-stays_in_range : goal.returns-clause-stays_in_range
returns-clause-stays_in_range c = λ inside.
    store_stays (graph_of c.args.model.now) (record { variable = c.args.var; index = c.args.index }, c.args.value) c.args.state.now c.put_kept.new.state c.put_kept.result inside
    (rw (to_z-of_z w64 c.args.value c.ranges.value) at c.put_kept.ensures.stores) c.put_kept.ensures.fault
