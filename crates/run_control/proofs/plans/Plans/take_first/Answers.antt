use Rattle.std.proofs.Common.{◌<◌, ◌∙◌, ap, arith, true, length}
use Rattle.run_laws.proofs.MappedPending.{without_next-every}
use Rattle.run_control.proofs.PlansKept.{pending_changed}
use Rattle.run_control.proofs.plans.Plans.take_first.Goals as goal

pub returns-clause-keeps : goal.returns-clause-keeps
returns-clause-keeps g c =
    let room = c.in_ok-make_room.ensures in
    let taken = c.take_first_into.ensures in
    pending_changed 0 0 _ c.args.self.now (g.P.Pending.entries c.take_first_into.new.self) (g.P.Pending.spare c.take_first_into.new.self) (g.P.Pending.numbered c.take_first_into.new.self) (g.P.Pending.vertices c.take_first_into.new.self) c.self.view_is
    (omega (arith, room.numbered, taken.numbered)) (omega (arith, room.spare, taken.room, ap length room.entries)) (taken.vertices ∙ room.vertices)
    (λ all. rw (taken.entries, room.entries) (without_next-every (λ e. e.vertex < g.P.Pending.vertices c.self.inside.pending) (λ e. true) (g.P.Pending.entries c.self.inside.pending) all))
