use Rattle.model_core.specs.EventGraph.{Location, Expression}
use Rattle.model_core.specs.Rules.BoundsOfParts.{quiet_set}
use Rattle.model_core.specs.Code.Views.{graph_of, location_of, expression_of}
use Rattle.std.proofs.Common.{map}
use Rattle.var_slicing.specs.Inner.Faulting.{fault_unless}
use Rattle.var_slicing.proofs.SideBySide.{AddedBeside}
use Rattle.var_slicing.proofs.faults.add_faulting_targets.Given as goal

abbrev pub invariant-loop-target : goal.invariant-loop-target
invariant-loop-target l =
    AddedBeside (λ ((t, e) : Location × Expression). fault_unless l.marks t.variable (quiet_set (graph_of l.model) t e)) location_of expression_of (map location_of l.targets) (map expression_of l.values) l.target-iterator l.initial.out.items l.out.items
