-- The vertices whose urgent edges exclude each other, where one of them is changed, and where vertices are dropped: a single urgent
-- model stays so.
use Rattle.std.proofs.Common.{◌≡◌, ℕ, zero, suc, Bool, true, false, ◌&&◌, cond, List, [], ◌∷◌, map, filter, length, slice_index_or, refl, ◌∙◌, ap, ap₂}
use Rattle.std.specs.List.{list_all}
use Rattle.model_core.specs.EventGraph.{EventGraph, EventVertex, EventEdge, Expression}
use Rattle.model_core.specs.Run.Step.{no_vertex}
use Rattle.model_core.specs.Rules.Exclusive.{exclusive}
use Rattle.model_core.specs.Rules.PlacedEdges.{with_place}
use Rattle.model_core.specs.Rules.MarkedPlaces.{rank, marked_of}
use Rattle.model_core.specs.Rules.UrgentEdges.{is_urgent, each_pair, urgent_conditions, single_urgent}
use Rattle.model_core.specs.Rules.Drop.{staying_marks, edge_renumbered, vertex_renumbered, dropped}
use Rattle.model_core.proofs.BothTrue.{and_first, and_second}

abbrev conditions : List EventEdge → List Expression
conditions es = map (λ (e : EventEdge). e.condition) es

module _ (g : EventGraph) where
  -- the urgent edges of the vertex exclude each other
  abbrev pub apart : EventVertex → Bool
  apart v = each_pair (exclusive g) (urgent_conditions v.edges)

  both_hold : (a b : Bool) → a ≡ true → b ≡ true → (a && b) ≡ true
  both_hold a b is_a is_b = ap₂ (λ a b. a && b) is_a is_b

  pub apart_at : (vs : List EventVertex) (k : ℕ) → list_all apart vs ≡ true → apart (slice_index_or vs k no_vertex) ≡ true
  apart_at [] k all = refl
  apart_at (v ∷ vs) zero all = and_first (apart v) (list_all apart vs) all
  apart_at (v ∷ vs) (suc k) all = apart_at vs k (and_second (apart v) (list_all apart vs) all)

  -- ---- one vertex changed

  pub apart_placed : (f : EventVertex → EventVertex) (k : ℕ) (vs : List EventVertex) → apart (f (slice_index_or vs k no_vertex)) ≡ true → list_all apart vs ≡ true → list_all apart (with_place f k vs) ≡ true
  apart_placed f k [] here all = refl
  apart_placed f zero (v ∷ vs) here all = both_hold (apart (f v)) (list_all apart vs) here (and_second (apart v) (list_all apart vs) all)
  apart_placed f (suc k) (v ∷ vs) here all =
      both_hold (apart v) (list_all apart (with_place f k vs)) (and_first (apart v) (list_all apart vs) all) (apart_placed f k vs here (and_second (apart v) (list_all apart vs) all))

  -- ---- a drop

  conditions_renumbered : (f : ℕ → ℕ) (es : List EventEdge) → urgent_conditions (map (edge_renumbered f) es) ≡ urgent_conditions es
  conditions_renumbered f [] = refl
  conditions_renumbered f (e ∷ es) = one (is_urgent e) (conditions_renumbered f es) where
    one : (b : Bool) → urgent_conditions (map (edge_renumbered f) es) ≡ urgent_conditions es
        → conditions (cond b (edge_renumbered f e ∷ filter is_urgent (map (edge_renumbered f) es)) (filter is_urgent (map (edge_renumbered f) es))) ≡ conditions (cond b (e ∷ filter is_urgent es) (filter is_urgent es))
    one true same = ap (λ cs. e.condition ∷ cs) same
    one false same = same

  apart_marked : (f : ℕ → ℕ) (marks : List Bool) (vs : List EventVertex) → list_all apart vs ≡ true → list_all apart (map (vertex_renumbered f) (marked_of marks vs)) ≡ true
  apart_marked f [] vs all = refl
  apart_marked f (m ∷ marks) [] all = refl
  apart_marked f (m ∷ marks) (v ∷ vs) all = one m (apart_marked f marks vs (and_second (apart v) (list_all apart vs) all)) where
    one : (b : Bool) → list_all apart (map (vertex_renumbered f) (marked_of marks vs)) ≡ true → list_all apart (map (vertex_renumbered f) (cond b (v ∷ marked_of marks vs) (marked_of marks vs))) ≡ true
    one true rest =
        both_hold (apart (vertex_renumbered f v)) (list_all apart (map (vertex_renumbered f) (marked_of marks vs)))
        (ap (each_pair (exclusive g)) (conditions_renumbered f v.edges) ∙ and_first (apart v) (list_all apart vs) all) rest
    one false rest = rest

pub dropped_single : (g : EventGraph) (vertices : List ℕ) → single_urgent g ≡ true → single_urgent (dropped g vertices) ≡ true
dropped_single g vertices single = apart_marked g (rank (staying_marks vertices (length g.vertices))) (staying_marks vertices (length g.vertices)) g.vertices single
