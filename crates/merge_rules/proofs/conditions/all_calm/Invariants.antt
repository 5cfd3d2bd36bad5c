use Rattle.std.proofs.Common.{◌≡◌, map, drop}
use Rattle.std.specs.List.{list_all}
use Rattle.model_core.specs.Code.Views.{graph_of, edge_of}
use Rattle.merge_rules.specs.Inner.ReadingEdges.{is_calm}
use Rattle.merge_rules.proofs.conditions.all_calm.Given as goal

abbrev pub invariant-loop-edge : goal.invariant-loop-edge
invariant-loop-edge l =
    list_all (is_calm (graph_of l.model)) (map edge_of (drop l.edge-index l.edges))
    ≡ list_all (is_calm (graph_of l.model)) (map edge_of l.edges)
