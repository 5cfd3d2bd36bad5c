use Rattle.std.proofs.Common.{◌≡◌, ℕ, ◌+◌, ◌≤◌, map, drop}
use Rattle.std.specs.Prelude.{slice_index}
use Rattle.model_core.specs.Code.Views.{edge_of}
use Rattle.merge_rules.specs.Inner.ReadingEdges.{counted}
use Rattle.merge_rules.proofs.reads_written.add_edges.Given as goal

abbrev pub invariant-loop-edge : goal.invariant-loop-edge
invariant-loop-edge l = record {
  readers : counted (map edge_of (drop l.edge-index l.edges)) l.counts.readers ≡ counted (map edge_of l.edges) l.initial.counts.readers;
  setters : l.counts.setters ≡ l.initial.counts.setters;
  few : (v : ℕ) → slice_index l.counts.readers v ≤ slice_index l.initial.counts.readers v + l.edge-index;
}
