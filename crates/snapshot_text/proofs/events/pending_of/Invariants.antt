use Rattle.std.proofs.Common.{◌≡◌, ◌++◌, map, drop}
use Rattle.model_core.specs.Code.Views.{graph_of}
use Rattle.model_core.specs.Saved.GoodSnapshots.{first_bad_part, pending_part, saved_entry}
use Rattle.snapshot_text.specs.Inner.RawParts.{written_pending}
use Rattle.snapshot_text.proofs.events.pending_of.Given as goal

abbrev pub invariant-loop-raw : goal.invariant-loop-raw
invariant-loop-raw l =
    let g = graph_of l.model in
    (first_bad_part (map (pending_part g) (map written_pending (drop l.raw-index l.raws))) ≡ first_bad_part (map (pending_part g) (map written_pending l.raws)))
    × (l.entries.items ++ map (saved_entry g l.clock) (map written_pending (drop l.raw-index l.raws)) ≡ map (saved_entry g l.clock) (map written_pending l.raws))
