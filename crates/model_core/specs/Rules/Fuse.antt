-- Fuse: of two vertices that do the same, the second is taken away, and the first replaces it.
use Rattle.std.specs.Prelude.{◌≡◌, ℕ, ◌==◌, nat_lt, nat_le, nat_eq, Bool, not, ◌&&◌, cond, List, [], ◌∷◌, map, length, Option, Some, None, is_none, filter, filter_map, slice_get}
use Rattle.std.specs.List.{list_any, range_with_len, remove}
use Rattle.std.specs.Option.{option_map}
use lib.Pointwise.{pointwise}
use Rattle.sig_base.specs.declared.limits.TheConstants.{TEXT_MAX}
use Rattle.model_core.specs.EventGraph.{EventGraph, EventVertex, EventEdge, StateChange}
use Rattle.model_core.specs.Run.Step.{vertex_at}
use Rattle.model_core.specs.Text.Canonical.{canonical}
use Rattle.model_core.specs.Rules.Conditions.{first_failed}
use Rattle.model_core.specs.Rules.Drop.{edge_renumbered, vertex_renumbered, watched_renumbered}
use Rattle.model_core.specs.Rules.MarkedPlaces.{place_without}
use Rattle.model_core.specs.Rules.Merge.{cancels, is_watched_vertex}
use Rattle.model_core.specs.Rules.SameGraph.{same_state_change, same_event_edge}

-- ---- the result

-- what names `gone` names `keep`
abbrev pub standing_for : ℕ → ℕ → ℕ → ℕ
standing_for keep gone v = cond (v == gone) keep v

-- the place in the result of what is at this place
abbrev pub fused_place : ℕ → ℕ → ℕ → ℕ
fused_place keep gone v = place_without gone (standing_for keep gone v)

-- the result: each edge that names `gone` names `keep`, and the vertex at `gone` is taken away
abbrev pub fused : EventGraph → ℕ → ℕ → EventGraph
fused g keep gone = record g {
  watch = map (watched_renumbered (fused_place keep gone)) g.watch;
  vertices = map (vertex_renumbered (fused_place keep gone)) (remove g.vertices gone);
}

-- ---- the conditions

-- some edge of the model cancels events of the vertex at this place
abbrev pub can_be_cancelled : EventGraph → ℕ → Bool
can_be_cancelled g vertex = list_any (λ (v : EventVertex). list_any (cancels vertex) v.edges) g.vertices

abbrev pub same_changes : List StateChange → List StateChange → Bool
same_changes a b = pointwise same_state_change a b

-- the edges are equal when what names `gone` is taken to name `keep`
abbrev pub same_edges_for : ℕ → ℕ → List EventEdge → List EventEdge → Bool
same_edges_for keep gone a b = pointwise same_event_edge (map (edge_renumbered (standing_for keep gone)) a) (map (edge_renumbered (standing_for keep gone)) b)

-- a model is within the limit that fusing can exceed, where the name of `keep` is the longer one
abbrev pub has_short_text : EventGraph → Bool
has_short_text g = nat_le (length (canonical g)) TEXT_MAX

-- 1: both vertices exist, and the one that is kept comes first;
-- 2: neither is watched;
-- 3: no edge of the model cancels either;
-- 4: they have the same parameters and the same changes;
-- 5: they have the same edges, when what names the one is taken to name the other;
-- 6: the result is within the limits
abbrev pub fuse_conditions : EventGraph → ℕ → ℕ → List Bool
fuse_conditions g keep gone =
    let a = vertex_at g keep in
    let b = vertex_at g gone in
    (nat_lt keep gone && nat_lt gone (length g.vertices)) ∷
    (not (is_watched_vertex g keep) && not (is_watched_vertex g gone)) ∷
    (not (can_be_cancelled g keep) && not (can_be_cancelled g gone)) ∷
    (pointwise nat_eq a.parameters b.parameters && same_changes a.changes b.changes) ∷
    same_edges_for keep gone a.edges b.edges ∷
    has_short_text (fused g keep gone) ∷
    []

-- ---- the first pair

-- the two vertices may be fused
abbrev pub are_twins : EventGraph → ℕ → ℕ → Bool
are_twins g keep gone = is_none (first_failed (fuse_conditions g keep gone))

-- the first vertex that may be fused into the one at this place
abbrev pub first_twin_of : EventGraph → ℕ → Option ℕ
first_twin_of g keep = slice_get (filter (are_twins g keep) (range_with_len 0 (length g.vertices))) 0

-- the first vertex, and for it the first other one, that may be fused
abbrev pub first_twins : EventGraph → Option (ℕ × ℕ)
first_twins g = slice_get (filter_map (λ keep. option_map (λ gone. (keep, gone)) (first_twin_of g keep)) (range_with_len 0 (length g.vertices))) 0

-- ---- fusing as long as there are twins

-- the second graph is reached from the first by fusing the first twins, again and again, until there are none
pub data Fused : EventGraph → EventGraph → Type 0 where
  no_twins : {g : EventGraph} → first_twins g ≡ None → Fused g g
  fuse_first : {g h : EventGraph} (keep gone : ℕ) → first_twins g ≡ Some (keep, gone) → Fused (fused g keep gone) h → Fused g h
