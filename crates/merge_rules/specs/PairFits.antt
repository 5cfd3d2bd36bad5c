-- A vertex and the one to which its plain urgent edge leads: whether the two can be merged, as far as it depends on the two.
use Rattle.std.specs.Prelude.{ℕ, ◌==◌, nat_lt, Bool, false, not, ◌&&◌, ◌||◌, List, [], ◌∷◌, length, Option, is_none}
use Rattle.std.specs.List.{list_all, list_any}
use Rattle.std.specs.Option.{option_map, option_map_or}
use Rattle.model_core.specs.EventGraph.{EventGraph, EventVertex, EventEdge, has_drawn_delay}
use Rattle.model_core.specs.Run.Step.{vertex_at}
use Rattle.model_core.specs.Rules.BoundsOfParts.{quiet_change, quiet_edge}
use Rattle.model_core.specs.Rules.Conditions.{first_failed}
use Rattle.model_core.specs.Rules.Uses.{vertex_writes}
use Rattle.model_core.specs.Rules.UrgentEdges.{plain_urgent, plain_urgent_edge}
use Rattle.model_core.specs.Rules.Merge.{cancels, is_watched_vertex, reads_none_of, is_unwatched, happens_unseen, values_at_once, other_edges, has_few_parts, merged_with}

-- the place to which the plain urgent edge leads, if there is one
abbrev pub target_at_once : EventVertex → Option ℕ
target_at_once v = option_map (λ (e : EventEdge). e.target) (plain_urgent_edge v)

-- the event v, once it has its values, writes no watched variable and never faults
abbrev pub acts_unseen : EventGraph → EventVertex → Bool
acts_unseen g v = list_all (is_unwatched (vertex_writes v)) g.watch && list_all (quiet_change g) v.changes && list_all (quiet_edge g) v.edges

-- the conditions of a merge of a vertex with the target of its plain urgent edge, but two: that the model is single urgent,
-- and that the text of the result isn't too long
abbrev pub pair_conditions : EventGraph → ℕ → ℕ → List Bool
pair_conditions g first second =
    let a = vertex_at g first in
    let b = vertex_at g second in
    (nat_lt first (length g.vertices) && nat_lt second (length g.vertices) && not (first == second)) ∷
    is_none (plain_urgent b) ∷
    not (is_watched_vertex g second) ∷
    not (list_any (cancels second) a.edges) ∷
    list_all (λ e. quiet_edge g e && reads_none_of (vertex_writes b) e && not (has_drawn_delay e)) (other_edges a) ∷
    (not (is_watched_vertex g first) || happens_unseen g b (values_at_once a)) ∷
    has_few_parts (merged_with b a) ∷
    []

-- the vertex at this place has a plain urgent edge, and they hold of the two
abbrev pub pair_fits : EventGraph → ℕ → Bool
pair_fits g first = option_map_or (λ second. is_none (first_failed (pair_conditions g first second))) (target_at_once (vertex_at g first)) false
