use Rattle.std.proofs.Common.{◌≡◌, ◌++◌, take}
use Rattle.std.specs.List.{flat_map}
use Rattle.model_core.specs.Code.Views.{graph_of}
use Rattle.model_core.specs.Text.SnapshotText.{pending_line}
use Rattle.snapshot_text.proofs.printing.put_all_pending.Given as goal

abbrev pub invariant-loop-entry : goal.invariant-loop-entry
invariant-loop-entry l = l.out.items ≡ l.initial.out.items ++ flat_map (pending_line (graph_of l.model) l.clock) (take l.entry-index l.entries)
