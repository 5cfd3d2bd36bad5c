-- Values beside the kinds that they must have.
use Rattle.std.specs.Prelude.{ℕ, List, ◌++◌, length, Option}
use Rattle.model_core.specs.declared.model.Kind.{Kind}
use Rattle.model_core.specs.Text.Written.{WrittenExpression}
use Rattle.model_core.specs.Static.FaultOrder.{StaticFault}
use Rattle.model_core.specs.Static.Meanings.{Meaning}
use Rattle.model_core.specs.Static.RuleTable.{value_count}
use Rattle.model_core.specs.Static.PartFaults.{values_faults}

-- the faults of values where one of each of these kinds is wanted, as if at byte 0: with no fault the byte doesn't matter
abbrev pub fitting_faults : (List ℕ → Option Meaning) → List (Option Kind) → List WrittenExpression → List StaticFault
fitting_faults means kinds es = value_count (length kinds) (length es) 0 ++ values_faults means kinds es
