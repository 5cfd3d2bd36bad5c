use Rattle.std.proofs.Common.{◌≡◌, map, drop}
use Rattle.std.specs.List.{list_any}
use Rattle.model_core.specs.Code.Views.{edge_of}
use Rattle.merge_rules.specs.Inner.ReadingEdges.{reads_it}
use Rattle.merge_rules.proofs.reads_written.one_reads.Given as goal

abbrev pub invariant-loop-edge : goal.invariant-loop-edge
invariant-loop-edge l =
    list_any (reads_it l.var) (map edge_of (drop l.edge-index l.edges))
    ≡ list_any (reads_it l.var) (map edge_of l.edges)
