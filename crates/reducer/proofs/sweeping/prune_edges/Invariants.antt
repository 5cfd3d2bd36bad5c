use Rattle.std.proofs.Common.{◌≡◌, ◌++◌, not, map, drop}
use Rattle.std.proofs.lemmas.List.Filters.{FiltersInPlace}
use Rattle.model_core.specs.declared.vertex.Edge.{Edge}
use Rattle.model_core.specs.Code.Views.{graph_of, edge_of, application_of}
use Rattle.edge_pruning.specs.declared.finding.EdgeRule.TheVariants as rules
use Rattle.edge_pruning.specs.EdgeRules.{edge_test}
use Rattle.reducer.specs.Inner.Sweep.{applied_after}
use Rattle.reducer.proofs.sweeping.prune_edges.Given as goal

abbrev pub invariant-loop-place : goal.invariant-loop-place
invariant-loop-place l = record {
  placed : FiltersInPlace (λ (e : Edge). not (edge_test rules.Prune (graph_of l.model) (edge_of e))) l.initial.edges.items l.edges.items l.kept l.place;
  noted :
      map application_of l.applications.items ++ applied_after rules.Prune (graph_of l.model) l.vertex l.kept (map edge_of (drop l.place l.initial.edges.items))
      ≡ map application_of l.initial.applications.items ++ applied_after rules.Prune (graph_of l.model) l.vertex 0 (map edge_of l.initial.edges.items);
}
