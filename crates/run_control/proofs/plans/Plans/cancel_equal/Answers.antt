use Rattle.std.proofs.Common.{◌<◌, arith}
use Rattle.model_core.specs.Run.Pending.{is_event_with}
use Rattle.run_laws.proofs.MappedPending.{without_next-every}
use Rattle.run_control.proofs.PlansKept.{pending_changed}
use Rattle.run_control.proofs.plans.Plans.cancel_equal.Goals as goal

pub returns-clause-keeps : goal.returns-clause-keeps
returns-clause-keeps g c =
    let cancels = c.cancel_equal.ensures in
    pending_changed 0 0 _ c.args.self.now (g.P.Pending.entries c.cancel_equal.new.self) (g.P.Pending.spare c.cancel_equal.new.self) (g.P.Pending.numbered c.cancel_equal.new.self) (g.P.Pending.vertices c.cancel_equal.new.self) c.self.view_is
    (omega (arith, cancels.numbered)) cancels.room cancels.vertices
    (λ all. rw cancels.entries (without_next-every (λ e. e.vertex < g.P.Pending.vertices c.self.inside.pending) (is_event_with c.args.edge.now.target c.put_values.new.values.items) (g.P.Pending.entries c.self.inside.pending) all))
