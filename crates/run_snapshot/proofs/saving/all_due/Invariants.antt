use Rattle.std.proofs.Common.{◌≡◌, ◌++◌, length}
use Rattle.model_core.specs.Saved.DueOrder.{in_due_order}
use Rattle.run_snapshot.proofs.saving.all_due.Given as goal

abbrev pub invariant-loop-entry : goal.invariant-loop-entry
invariant-loop-entry g l = l.entries.items ++ in_due_order (g.P.Pending.entries l.pending) ≡ in_due_order (g.P.Pending.entries l.initial.pending)

abbrev pub decreases-loop-entry : goal.decreases-loop-entry
decreases-loop-entry g l = length (g.P.Pending.entries l.pending)
