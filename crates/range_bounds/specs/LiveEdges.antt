-- Urgent edges that are live: as far as the declared ranges show, they may schedule an event at the present moment.
use Rattle.std.specs.Prelude.{ℕ, Bool, false, not, ◌&&◌, ◌||◌, List, slice_get}
use Rattle.std.specs.List.{list_any, remove}
use Rattle.std.specs.Option.{option_map_or}
use Rattle.model_core.specs.EventGraph.{EventGraph, EventEdge}
use Rattle.model_core.specs.Rules.BoundsOf.{bounds_of, refuted}
use Rattle.model_core.specs.Rules.UrgentEdges.{is_urgent}

-- an urgent edge whose condition isn't refuted. Any other edge excludes all edges
abbrev pub is_live : EventGraph → EventEdge → Bool
is_live g e = is_urgent e && not (refuted (bounds_of g e.condition))

-- there is no edge at this place, or it isn't urgent, or no other one of these edges is live
abbrev pub may_take_any_condition : EventGraph → List EventEdge → ℕ → Bool
may_take_any_condition g edges place = not (option_map_or is_urgent (slice_get edges place) false) || not (list_any (is_live g) (remove edges place))
