use Rattle.std.proofs.Common.{map}
use Rattle.model_core.specs.EventGraph.{Location, Expression}
use Rattle.model_core.specs.Code.Views.{location_of, expression_of}
use Rattle.var_slicing.specs.Inner.Needing.{target_pairs}
use Rattle.var_slicing.proofs.SideBySide.{AddedBeside}
use Rattle.var_slicing.proofs.reads_beside.add_targets_beside.Given as goal

abbrev pub invariant-loop-target : goal.invariant-loop-target
invariant-loop-target l =
    AddedBeside (λ ((t, e) : Location × Expression). target_pairs l.marks t e) location_of expression_of (map location_of l.targets) (map expression_of l.values) l.target-iterator l.initial.pairs.items l.pairs.items
