use Rattle.std.proofs.Common.{◌≡◌, map, drop}
use Rattle.model_core.specs.Code.Views.{graph_of, edge_of}
use Rattle.var_slicing.specs.Inner.Needing.{added_each, edge_pairs}
use Rattle.var_slicing.proofs.needs.add_carried.Given as goal

abbrev pub invariant-loop-edge : goal.invariant-loop-edge
invariant-loop-edge l = added_each (edge_pairs l.marks (graph_of l.model)) (map edge_of (drop l.edge-index l.edges)) l.pairs.items ≡ added_each (edge_pairs l.marks (graph_of l.model)) (map edge_of l.edges) l.initial.pairs.items
