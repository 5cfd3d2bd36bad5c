use Rattle.std.proofs.Common.{ℕ, map}
use Rattle.model_core.specs.EventGraph.{Expression, scalar_location}
use Rattle.model_core.specs.Rules.BoundsOfParts.{quiet_set}
use Rattle.model_core.specs.Code.Views.{graph_of, expression_of}
use Rattle.var_slicing.specs.Inner.Faulting.{fault_unless}
use Rattle.var_slicing.proofs.SideBySide.{AddedBeside}
use Rattle.var_slicing.proofs.faults.add_faulting_values.Given as goal

abbrev pub invariant-loop-param : goal.invariant-loop-param
invariant-loop-param l =
    AddedBeside (λ ((v, e) : ℕ × Expression). fault_unless l.marks v (quiet_set (graph_of l.model) (scalar_location v) e)) (λ v. v) expression_of l.params (map expression_of l.values) l.param-iterator l.initial.out.items l.out.items
