-- What a vertex takes, by its place, and the faults of what a `set` stores.
use Rattle.std.specs.Prelude.{ℕ, List, ◌++◌, map, Option, Some, None, slice_get}
use Rattle.std.specs.List.{flat_map}
use Rattle.model_core.specs.declared.model.Kind.{Kind}
use Rattle.model_core.specs.Text.Written.{WrittenExpression, WrittenTarget}
use Rattle.model_core.specs.Static.FaultOrder.{StaticFault}
use Rattle.model_core.specs.Static.Meanings.{Meaning}
use Rattle.model_core.specs.Static.PartFaults.{target_kind, target_faults, values_faults}

-- what the vertex at this place takes
abbrev pub taken_by : List (List (Option Kind)) → Option ℕ → Option (List (Option Kind))
taken_by taken None = None
taken_by taken (Some k) = slice_get taken k

-- the faults of the targets and the values of a `set`
abbrev pub stored_faults : (List ℕ → Option Meaning) → List WrittenTarget → List WrittenExpression → List StaticFault
stored_faults means ts es = flat_map (target_faults means) ts ++ values_faults means (map (target_kind means) ts) es
