use Rattle.std.proofs.Common.{◌≡◌, map, drop}
use Rattle.std.specs.List.{list_any}
use Rattle.model_core.specs.Rules.Uses.{vertex_writes}
use Rattle.model_core.specs.Code.Views.{edge_of, vertex_of}
use Rattle.merge_rules.specs.Inner.ReadingEdges.{reads_one_of}
use Rattle.merge_rules.proofs.reads_written.one_walked.Given as goal

abbrev pub invariant-loop-edge : goal.invariant-loop-edge
invariant-loop-edge l =
    list_any (reads_one_of (vertex_writes (vertex_of l.vertex))) (map edge_of (drop l.edge-index l.edges))
    ≡ list_any (reads_one_of (vertex_writes (vertex_of l.vertex))) (map edge_of l.edges)
