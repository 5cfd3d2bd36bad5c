use Rattle.std.proofs.Common.{◌∙◌, ◌++◌, ap}
use Rattle.model_core.specs.Saved.DueOrder.{in_due_order}
use Rattle.run_snapshot.proofs.TakenInTurn.{taken_more, taken_less, taken_all}
use Rattle.run_snapshot.proofs.saving.all_due.Goals as goal

pub loop-entry-smaller : goal.loop-entry-smaller
loop-entry-smaller g c = taken_less (g.P.Pending.entries c.loop-entry.pending) c.in-Some.entry (g.P.Pending.entries c.take_first.new.self) c.in-Some.ensures.gives c.in-Some.ensures.entries

pub loop-entry-preserved : goal.loop-entry-preserved
loop-entry-preserved g c =
    ap (λ l. l ++ in_due_order (g.P.Pending.entries c.take_first.new.self)) c.in_ok-push.ensures.items
    ∙ taken_more (g.P.Pending.entries c.loop-entry.pending) c.in-Some.entry (g.P.Pending.entries c.take_first.new.self) c.loop-entry.entries.items _ c.in-Some.ensures.gives c.in-Some.ensures.entries c.loop-entry.invariant

pub returns : goal.returns
returns g c = c.from_vec.ensures ∙ taken_all (g.P.Pending.entries c.loop-entry.pending) c.loop-entry.entries.items _ c.in_default.ensures.gives c.loop-entry.invariant
