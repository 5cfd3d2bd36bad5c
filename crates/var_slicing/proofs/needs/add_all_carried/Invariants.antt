use Rattle.std.proofs.Common.{◌≡◌, map, drop}
use Rattle.model_core.specs.Code.Views.{graph_of, vertex_of}
use Rattle.var_slicing.specs.Inner.Needing.{with_value_pairs}
use Rattle.var_slicing.proofs.needs.add_all_carried.Given as goal

abbrev pub invariant-loop-vertex : goal.invariant-loop-vertex
invariant-loop-vertex l = with_value_pairs l.marks (graph_of l.model) (map vertex_of (drop l.vertex-index l.vertices)) l.pairs.items ≡ with_value_pairs l.marks (graph_of l.model) (map vertex_of l.vertices) l.initial.pairs.items
