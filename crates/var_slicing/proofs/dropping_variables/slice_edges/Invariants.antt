use Rattle.std.proofs.Common.{map}
use Rattle.model_core.specs.declared.vertex.Vertex.{Vertex}
use Rattle.model_core.specs.Code.Views.{edge_of}
use Rattle.mark_laws.proofs.WrittenAnew.{WrittenAnew}
use Rattle.var_slicing.specs.Inner.StepsOfLeaving.{edge_left_in}
use Rattle.var_slicing.proofs.dropping_variables.slice_edges.Given as goal

abbrev pub invariant-loop-edge : goal.invariant-loop-edge
invariant-loop-edge l = WrittenAnew edge_of (edge_left_in (map (λ (v : Vertex). v.params) l.vertices) l.staying) l.edge-index l.initial.edge-items l.edge-items
