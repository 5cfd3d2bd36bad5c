use Rattle.std.proofs.Common.{◌≡◌, ◌++◌, map, take}
use Rattle.std.specs.List.{flat_map}
use Rattle.model_core.specs.Code.Views.{graph_of, vertex_of}
use Rattle.describe.specs.Description.{vertex_sentences}
use Rattle.describe.proofs.vertices.put_vertices.Given as goal

abbrev pub invariant-loop-vertex : goal.invariant-loop-vertex
invariant-loop-vertex l = l.out.items ≡ l.initial.out.items ++ flat_map (vertex_sentences (graph_of l.model)) (map vertex_of (take l.vertex-index l.vertices))
