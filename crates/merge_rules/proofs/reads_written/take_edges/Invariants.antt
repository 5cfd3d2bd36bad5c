use Rattle.std.proofs.Common.{◌≡◌, ℕ, ◌<◌, ◌≤◌, map, length, drop}
use Rattle.std.specs.Prelude.{count_by, slice_index}
use Rattle.model_core.specs.Code.Views.{edge_of}
use Rattle.merge_rules.specs.Inner.ReadingEdges.{reads_it, uncounted}
use Rattle.merge_rules.proofs.reads_written.take_edges.Given as goal

abbrev pub invariant-loop-edge : goal.invariant-loop-edge
invariant-loop-edge l = record {
  readers : uncounted (map edge_of (drop l.edge-index l.edges)) l.counts.readers ≡ uncounted (map edge_of l.edges) l.initial.counts.readers;
  setters : l.counts.setters ≡ l.initial.counts.setters;
  enough : (v : ℕ) → v < length l.counts.readers → count_by (reads_it v) (map edge_of (drop l.edge-index l.edges)) ≤ slice_index l.counts.readers v;
}
