use Rattle.std.proofs.Common.{map}
use Rattle.model_core.specs.declared.vertex.Vertex.{Vertex}
use Rattle.model_core.specs.Code.Views.{vertex_of}
use Rattle.sig_base.proofs.Lists.{ChangedTo}
use Rattle.var_slicing.specs.Inner.StepsOfLeaving.{edges_left_in}
use Rattle.var_slicing.proofs.dropping_variables.slice_all_edges.Given as goal

abbrev pub invariant-loop-place : goal.invariant-loop-place
invariant-loop-place l = ChangedTo vertex_of (edges_left_in (map (λ (v : Vertex). v.params) l.initial.vertices.items) l.staying) l.place l.initial.vertices.items l.vertices.items
