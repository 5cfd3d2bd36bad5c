use Rattle.std.proofs.Common.{◌≡◌, ◌<◌, rules, subst, arith}
use Rattle.model_core.specs.Run.Edges.{act}
use Rattle.model_core.specs.Run.Pending.{is_of}
use Rattle.model_core.specs.Code.Views.{graph_of, edge_of, edge_delay_of}
use Rattle.run_laws.proofs.MappedPending.{without_next-every, without_all-every}
use Rattle.sig_expr.specs.Outcomes.{with_ok}
use Rattle.run_control.specs.Inner.Planning.{Planning}
use Rattle.run_control.proofs.Acts.{act-late, act-scheduled}
use Rattle.run_control.proofs.PlansKept.{pending_changed}
use Rattle.run_control.proofs.plans.Plans.act.Goals as goal

pub returns-in_err-ticks-in-Schedule-clause-acts : goal.returns-in_err-ticks-in-Schedule-clause-acts
returns-in_err-ticks-in-Schedule-clause-acts g c =
    let late = act-late (graph_of c.args.model.now) c.self.inside.streams.seed c.args.state.now c.args.clk (edge_of c.args.edge.now) (edge_delay_of c.in-Schedule.delay) c.in-Schedule.priority (record { pending = g.P.Pending.entries c.self.inside.pending; taken = c.self.inside.streams.taken }) c.in_err-ticks-in-Schedule.field-0.0 c.in_err-ticks-in-Schedule.ensures.waits in
    rw (← c.self.view_is, c.in-Schedule.is) (search (rules, late))

pub returns-in_ok-ticks-in-Schedule-clause-acts : goal.returns-in_ok-ticks-in-Schedule-clause-acts
returns-in_ok-ticks-in-Schedule-clause-acts g c =
    subst (λ (p : Planning). with_ok c.schedule.new.self.planned c.schedule.result ≡ act (graph_of c.args.model.now) p.seed c.args.state.now c.args.clk (edge_of c.args.edge.now) (edge_of c.args.edge.now).kind p.planned) c.self.view_is
    (rw c.in-Schedule.is
    (act-scheduled (graph_of c.args.model.now) c.self.inside.streams.seed c.args.state.now c.args.clk (edge_of c.args.edge.now) (edge_delay_of c.in-Schedule.delay) c.in-Schedule.priority c.in_ok-ticks-in-Schedule.ticks (record { pending = g.P.Pending.entries c.self.inside.pending; taken = c.self.inside.streams.taken }) c.delay_ticks.new.streams.taken _
    c.in_ok-ticks-in-Schedule.ensures.waits c.schedule.ensures.schedules))

pub returns-in-CancelNext-clause-keeps : goal.returns-in-CancelNext-clause-keeps
returns-in-CancelNext-clause-keeps g c =
    let cancels = c.cancel_next.ensures in
    pending_changed 1 1 _ c.args.self.now (g.P.Pending.entries c.cancel_next.new.self) (g.P.Pending.spare c.cancel_next.new.self) (g.P.Pending.numbered c.cancel_next.new.self) (g.P.Pending.vertices c.cancel_next.new.self) c.self-in-CancelNext.view_is
    (omega (arith, cancels.numbered)) cancels.room cancels.vertices
    (λ all. rw cancels.entries (without_next-every (λ e. e.vertex < g.P.Pending.vertices c.self-in-CancelNext.inside.pending) (is_of c.args.edge.now.target) (g.P.Pending.entries c.self-in-CancelNext.inside.pending) all))

pub returns-in-CancelAll-clause-keeps : goal.returns-in-CancelAll-clause-keeps
returns-in-CancelAll-clause-keeps g c =
    let cancels = c.cancel_all.ensures in
    pending_changed 1 1 _ c.args.self.now (g.P.Pending.entries c.cancel_all.new.self) (g.P.Pending.spare c.cancel_all.new.self) (g.P.Pending.numbered c.cancel_all.new.self) (g.P.Pending.vertices c.cancel_all.new.self) c.self-in-CancelAll.view_is
    (omega (arith, cancels.numbered)) cancels.room cancels.vertices
    (λ all. rw cancels.entries (without_all-every (λ e. e.vertex < g.P.Pending.vertices c.self-in-CancelAll.inside.pending) (is_of c.args.edge.now.target) (g.P.Pending.entries c.self-in-CancelAll.inside.pending) all))
