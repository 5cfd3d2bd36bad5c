use Rattle.std.proofs.Common.{◌≡◌, map, drop}
use Rattle.model_core.specs.Code.Views.{graph_of, vertex_of}
use Rattle.var_slicing.specs.Inner.Faulting.{with_faults}
use Rattle.var_slicing.proofs.faults.add_faulting.Given as goal

abbrev pub invariant-loop-vertex : goal.invariant-loop-vertex
invariant-loop-vertex l = with_faults l.marks (graph_of l.model) (map vertex_of (drop l.vertex-index l.vertices)) l.out.items ≡ with_faults l.marks (graph_of l.model) (map vertex_of l.vertices) l.initial.out.items
