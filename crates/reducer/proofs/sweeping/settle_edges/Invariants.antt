use Rattle.std.proofs.Common.{◌≡◌, ◌++◌, map, drop}
use Rattle.model_core.specs.Code.Views.{graph_of, edge_of, application_of}
use Rattle.sig_base.proofs.Lists.{ChangedTo}
use Rattle.edge_pruning.specs.declared.finding.EdgeRule.TheVariants as rules
use Rattle.reducer.specs.Inner.Sweep.{applied_after, settled_if_proved}
use Rattle.reducer.proofs.sweeping.settle_edges.Given as goal

abbrev pub invariant-loop-edge : goal.invariant-loop-edge
invariant-loop-edge l = record {
  counted : l.before ≡ l.edge-index;
  settled : ChangedTo edge_of (settled_if_proved (graph_of l.model)) l.edge-index l.initial.edge-items l.edge-items;
  noted :
      map application_of l.applications.items ++ applied_after rules.Settle (graph_of l.model) l.vertex l.before (map edge_of (drop l.edge-index l.initial.edge-items))
      ≡ map application_of l.initial.applications.items ++ applied_after rules.Settle (graph_of l.model) l.vertex 0 (map edge_of l.initial.edge-items);
}
