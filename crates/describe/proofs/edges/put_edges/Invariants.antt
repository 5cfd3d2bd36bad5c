use Rattle.std.proofs.Common.{◌≡◌, ◌++◌, map, take}
use Rattle.std.specs.List.{flat_map}
use Rattle.model_core.specs.Code.Views.{graph_of, edge_of}
use Rattle.describe.specs.Description.{edge_sentence}
use Rattle.describe.proofs.edges.put_edges.Given as goal

abbrev pub invariant-loop-edge : goal.invariant-loop-edge
invariant-loop-edge l = l.out.items ≡ l.initial.out.items ++ flat_map (edge_sentence (graph_of l.model) l.name) (map edge_of (take l.edge-index l.edges))
