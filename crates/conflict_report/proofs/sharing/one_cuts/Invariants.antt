use Rattle.std.proofs.Common.{◌≡◌, map, drop, ◌∷◌}
use Rattle.std.specs.List.{flat_map}
use Rattle.model_core.specs.Code.Views.{edge_of, vertex_of}
use Rattle.model_core.specs.Conflicts.Conflict.{edge_cancelled, named_vertices, in_common}
use Rattle.conflict_report.proofs.sharing.one_cuts.Given as goal

abbrev pub invariant-loop-edge : goal.invariant-loop-edge
invariant-loop-edge l =
    in_common (flat_map edge_cancelled (map edge_of (drop l.edge-index l.edges))) (l.place ∷ named_vertices (vertex_of l.other))
    ≡ in_common (flat_map edge_cancelled (map edge_of l.edges)) (l.place ∷ named_vertices (vertex_of l.other))
