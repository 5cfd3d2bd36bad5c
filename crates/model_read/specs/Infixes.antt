-- Which operator each operator of the code represents.
use Rattle.std.specs.Prelude.{ℕ}
use Rattle.model_core.specs.EventGraph.{Operator}
use Rattle.model_core.specs.Code.Views.{operator_of}
use Rattle.model_read.specs.declared.operators.Infix.{Infix}

-- its level, and the operator
abbrev pub infix_of : Infix → ℕ × Operator
infix_of i = (i.level, operator_of i.op)
