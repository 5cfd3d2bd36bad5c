-- Priorities that are noted edge by edge are those of the vertices.
use Rattle.std.proofs.Common.{◌≡◌, ℕ, ◌==◌, Bool, true, false, cond, List, [], ◌∷◌, refl, sym, ap, subst, ◌∙◌}
use Rattle.std.specs.List.{flat_map}
use Rattle.model_core.specs.EventGraph.{EventGraph, EventVertex, EventEdge}
use Rattle.model_core.specs.Conflicts.Priorities.{kind_priorities, edge_priorities, vertex_priorities, begin_priorities, priorities_of}
use Rattle.run_laws.proofs.MappedVertices.{turned}
use Rattle.conflict_report.specs.Inner.NumberHolders.{HoldExactly, HoldMore, only_at}
use Rattle.conflict_report.proofs.NumbersNoted.{hold-more, hold-alike, hold-no_more, hold-first}

-- that of one edge
pub edge-held : (e : EventEdge) (priority number : ℕ) (old new : List (List ℕ)) → kind_priorities e.kind ≡ priority ∷ [] → number ≡ priority → HoldMore (only_at e.target (number ∷ [])) old new → HoldMore (λ j. edge_priorities j e) old new
edge-held e priority number old new own is =
    hold-alike (only_at e.target (number ∷ [])) (λ j. edge_priorities j e) old new (λ j. ap (λ ks. cond (e.target == j) ks []) (ap (λ k. k ∷ []) is ∙ sym own))

either_none : (b : Bool) (ks : List ℕ) → ks ≡ [] → cond b ks [] ≡ []
either_none true ks none = none
either_none false ks none = refl

pub edge-holds_none : (e : EventEdge) (old : List (List ℕ)) → kind_priorities e.kind ≡ [] → HoldMore (λ j. edge_priorities j e) old old
edge-holds_none e old none = hold-no_more (λ j. edge_priorities j e) old (λ j. either_none (e.target == j) (kind_priorities e.kind) none)

-- ---- all

pub priorities-held : (g : EventGraph) (none begun all : List (List ℕ)) (five : ℕ) (vs : List EventVertex) → none ≡ [] → five ≡ 5 → vs ≡ g.vertices → HoldMore (only_at 0 (five ∷ [])) none begun → HoldMore (λ j. flat_map (vertex_priorities j) vs) begun all → HoldExactly (priorities_of g) all
priorities-held g none begun all five vs empty is of_all first then =
    hold-first (priorities_of g) all
    (hold-more begin_priorities (λ j. flat_map (vertex_priorities j) g.vertices) [] begun all
    (subst (λ (ss : List (List ℕ)). HoldMore begin_priorities ss begun) empty (hold-alike (only_at 0 (five ∷ [])) begin_priorities none begun (λ j. ap (λ k. cond (0 == j) (k ∷ []) []) is ∙ ap (λ b. cond b (5 ∷ []) []) (turned 0 j)) first))
    (hold-alike (λ j. flat_map (vertex_priorities j) vs) (λ j. flat_map (vertex_priorities j) g.vertices) begun all (λ j. ap (flat_map (vertex_priorities j)) of_all) then))
