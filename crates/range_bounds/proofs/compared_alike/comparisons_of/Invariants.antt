use Rattle.std.proofs.Common.{◌≡◌, ◌+◌, ◌≤◌, ◌++◌, Some, map, drop, length}
use Rattle.std.specs.List.{list_all}
use Rattle.sig_base.specs.declared.limits.TheConstants.{EDGES_MAX}
use Rattle.model_core.specs.Rules.Exclusive.{comparison_of}
use Rattle.model_core.specs.Code.Views.{graph_of, edge_of, expression_of}
use Rattle.range_bounds.specs.declared.compared_alike.Compared.{Compared}
use Rattle.range_bounds.specs.Inner.ComparedAlike.{live_conditions, comparison_with, compares_this}
use Rattle.range_bounds.proofs.compared_alike.comparisons_of.Given as goal

-- the comparisons so far, and those of the edges that are left
abbrev pub invariant-loop-edge : goal.invariant-loop-edge
invariant-loop-edge l = record {
  are : map (λ (c : Compared). Some (comparison_with (expression_of l.left) c)) l.all.items ++ map comparison_of (live_conditions (graph_of l.model) (map edge_of (drop l.edge-index l.edges)))
      ≡ map comparison_of (live_conditions (graph_of l.model) (map edge_of l.edges));
  compared : list_all (compares_this (expression_of l.left)) (live_conditions (graph_of l.model) (map edge_of (drop l.edge-index l.edges))) ≡ list_all (compares_this (expression_of l.left)) (live_conditions (graph_of l.model) (map edge_of l.edges));
  counted : length l.all.items + length (live_conditions (graph_of l.model) (map edge_of (drop l.edge-index l.edges))) ≡ length (live_conditions (graph_of l.model) (map edge_of l.edges));
  within : length l.all.items ≤ EDGES_MAX;
}
