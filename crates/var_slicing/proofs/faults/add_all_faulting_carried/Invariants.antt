use Rattle.std.proofs.Common.{◌≡◌, map, drop}
use Rattle.model_core.specs.Code.Views.{graph_of, edge_of}
use Rattle.var_slicing.specs.Inner.Needing.{added_each}
use Rattle.var_slicing.specs.Inner.Faulting.{faults_in_edge}
use Rattle.var_slicing.proofs.faults.add_all_faulting_carried.Given as goal

abbrev pub invariant-loop-edge : goal.invariant-loop-edge
invariant-loop-edge l = added_each (faults_in_edge l.marks (graph_of l.model)) (map edge_of (drop l.edge-index l.edges)) l.out.items ≡ added_each (faults_in_edge l.marks (graph_of l.model)) (map edge_of l.edges) l.initial.out.items
