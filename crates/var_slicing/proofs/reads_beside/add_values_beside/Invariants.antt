use Rattle.std.proofs.Common.{ℕ, map}
use Rattle.model_core.specs.EventGraph.{Expression}
use Rattle.model_core.specs.Code.Views.{expression_of}
use Rattle.var_slicing.specs.Inner.Needing.{value_pairs}
use Rattle.var_slicing.proofs.SideBySide.{AddedBeside}
use Rattle.var_slicing.proofs.reads_beside.add_values_beside.Given as goal

abbrev pub invariant-loop-param : goal.invariant-loop-param
invariant-loop-param l =
    AddedBeside (λ ((v, e) : ℕ × Expression). value_pairs l.marks v e) (λ v. v) expression_of l.params (map expression_of l.values) l.param-iterator l.initial.pairs.items l.pairs.items
