use Rattle.std.proofs.Common.{◌≡◌, ◌++◌, map, take}
use Rattle.model_core.specs.Code.Views.{graph_of, vertex_of, application_of}
use Rattle.reducer.specs.Inner.Sweep.{swept_vertex, applied_to_all}
use Rattle.sig_base.proofs.Lists.{ChangedTo}
use Rattle.reducer.proofs.sweeping.sweep_vertices.Given as goal

abbrev pub invariant-loop-vertex : goal.invariant-loop-vertex
invariant-loop-vertex l = record {
  swept : ChangedTo vertex_of (swept_vertex l.rule (graph_of l.model)) l.vertex-index l.initial.vertex-items l.vertex-items;
  applied : map application_of l.applications.items ≡ map application_of l.initial.applications.items ++ applied_to_all l.rule (graph_of l.model) (map vertex_of (take l.vertex-index l.initial.vertex-items));
}
