use Rattle.std.proofs.Common.{◌≡◌, map, drop}
use Rattle.model_core.specs.Code.Views.{graph_of, change_of}
use Rattle.var_slicing.specs.Inner.Needing.{added_each}
use Rattle.var_slicing.specs.Inner.Faulting.{faults_in_change}
use Rattle.var_slicing.proofs.faults.add_faulting_changes.Given as goal

abbrev pub invariant-loop-change : goal.invariant-loop-change
invariant-loop-change l = added_each (faults_in_change l.marks (graph_of l.model)) (map change_of (drop l.change-index l.changes)) l.out.items ≡ added_each (faults_in_change l.marks (graph_of l.model)) (map change_of l.changes) l.initial.out.items
