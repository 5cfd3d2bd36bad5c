-- Which models only a text of version 2 can write: those that pass a limit of version 1, or draw a delay.
use Rattle.std.specs.Prelude.{Bool, false, ◌||◌, nat_lt, length}
use Rattle.std.specs.List.{list_any}
use Rattle.sig_base.specs.declared.limits.TheConstants.{ARRAY_CELLS_MAX_VERSION_1, PARAMETERS_MAX_VERSION_1, TARGETS_MAX_VERSION_1}
use Rattle.model_core.specs.EventGraph.{EventGraph, EventVertex, Variable, StateChange, Set, Draw, has_drawn_delay}

-- an array has more cells than one of version 1
abbrev pub is_large_array : Variable → Bool
is_large_array v = nat_lt ARRAY_CELLS_MAX_VERSION_1 v.size

-- a `set` has more targets than one of version 1
abbrev pub has_many_targets : StateChange → Bool
has_many_targets (Set targets values) = nat_lt TARGETS_MAX_VERSION_1 (length targets)
has_many_targets (Draw target stream choice) = false

-- a vertex has more parameters than one of version 1, such a `set`, or an edge whose delay is drawn
abbrev pub has_later_parts : EventVertex → Bool
has_later_parts v = nat_lt PARAMETERS_MAX_VERSION_1 (length v.parameters) || list_any has_many_targets v.changes || list_any has_drawn_delay v.edges

abbrev pub needs_version_two : EventGraph → Bool
needs_version_two g = list_any is_large_array g.variables || list_any has_later_parts g.vertices
