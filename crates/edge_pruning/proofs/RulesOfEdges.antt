-- Where no edge can be pruned or settled, none can be after a prune, a settle or a drop: bounds of conditions stay.
use Rattle.std.proofs.Common.{◌≡◌, ℕ, zero, suc, Bool, true, false, List, [], ◌∷◌, map, length, None, refl, ◌∙◌}
use Rattle.model_core.specs.EventGraph.{EventEdge, EventVertex, EventGraph}
use Rattle.model_core.specs.Rules.PlacedEdges.{with_place, first_edge}
use Rattle.model_core.specs.Rules.MarkedPlaces.{rank, marked_of}
use Rattle.model_core.specs.Rules.Prune.{has_refuted_condition, without_edge, pruned, first_prune}
use Rattle.model_core.specs.Rules.Settle.{with_true_condition, with_settled, settled, can_be_settled, first_settle}
use Rattle.model_core.specs.Rules.Drop.{staying_marks, edge_renumbered, vertex_renumbered, dropped}
use Rattle.model_core.proofs.NoEdgePasses.{NoneOf, NoneIn, first_edge-none, none-first_edge, none-removed, none-placed}

-- ---- an edge is taken away

none-without : (test : EventEdge → Bool) (vs : List EventVertex) (vertex edge : ℕ) → first_edge test 0 vs ≡ None → first_edge test 0 (with_place (without_edge edge) vertex vs) ≡ None
none-without test vs vertex edge none =
    first_edge-none test 0 _ (none-placed test (without_edge edge) (λ v clear. none-removed test v.edges edge clear) vs vertex (none-first_edge test 0 vs none))

pub pruned-prune : (g : EventGraph) (vertex edge : ℕ) → first_prune g ≡ None → first_prune (pruned g vertex edge) ≡ None
pruned-prune g vertex edge none = none-without (has_refuted_condition g) g.vertices vertex edge none

pub pruned-settle : (g : EventGraph) (vertex edge : ℕ) → first_settle g ≡ None → first_settle (pruned g vertex edge) ≡ None
pruned-settle g vertex edge none = none-without (can_be_settled g) g.vertices vertex edge none

-- ---- a condition becomes the literal `true`

none-with_true_condition : (test : EventEdge → Bool) → ((e : EventEdge) → test (with_true_condition e) ≡ false) → (es : List EventEdge) (k : ℕ) → NoneOf test es → NoneOf test (with_place with_true_condition k es)
none-with_true_condition test never [] k none = tt
none-with_true_condition test never (e ∷ es) zero none = (never e, none.1)
none-with_true_condition test never (e ∷ es) (suc k) none = (none.0, none-with_true_condition test never es k none.1)

none-settled : (test : EventEdge → Bool) → ((e : EventEdge) → test (with_true_condition e) ≡ false) → (vs : List EventVertex) (vertex edge : ℕ) → first_edge test 0 vs ≡ None → first_edge test 0 (with_place (with_settled edge) vertex vs) ≡ None
none-settled test never vs vertex edge none =
    first_edge-none test 0 _ (none-placed test (with_settled edge) (λ v clear. none-with_true_condition test never v.edges edge clear) vs vertex (none-first_edge test 0 vs none))

pub settled-prune : (g : EventGraph) (vertex edge : ℕ) → first_prune g ≡ None → first_prune (settled g vertex edge) ≡ None
settled-prune g vertex edge none = none-settled (has_refuted_condition g) (λ e. refl) g.vertices vertex edge none

pub settled-settle : (g : EventGraph) (vertex edge : ℕ) → first_settle g ≡ None → first_settle (settled g vertex edge) ≡ None
settled-settle g vertex edge none = none-settled (can_be_settled g) (λ e. refl) g.vertices vertex edge none

-- ---- vertices are taken away

none-renumbered : (test after : EventEdge → Bool) (f : ℕ → ℕ) → ((e : EventEdge) → after (edge_renumbered f e) ≡ test e) → (es : List EventEdge) → NoneOf test es → NoneOf after (map (edge_renumbered f) es)
none-renumbered test after f same [] none = tt
none-renumbered test after f same (e ∷ es) none = (same e ∙ none.0, none-renumbered test after f same es none.1)

none-left : (test after : EventEdge → Bool) (f : ℕ → ℕ) → ((e : EventEdge) → after (edge_renumbered f e) ≡ test e) → (marks : List Bool) (vs : List EventVertex) → NoneIn test vs → NoneIn after (map (vertex_renumbered f) (marked_of marks vs))
none-left test after f same [] vs none = tt
none-left test after f same (b ∷ bs) [] none = tt
none-left test after f same (true ∷ bs) (v ∷ vs) none = (none-renumbered test after f same v.edges none.0, none-left test after f same bs vs none.1)
none-left test after f same (false ∷ bs) (v ∷ vs) none = none-left test after f same bs vs none.1

none-dropped : (test after : EventEdge → Bool) (f : ℕ → ℕ) → ((e : EventEdge) → after (edge_renumbered f e) ≡ test e) → (marks : List Bool) (vs : List EventVertex) → first_edge test 0 vs ≡ None → first_edge after 0 (map (vertex_renumbered f) (marked_of marks vs)) ≡ None
none-dropped test after f same marks vs none = first_edge-none after 0 _ (none-left test after f same marks vs (none-first_edge test 0 vs none))

pub dropped-prune : (g : EventGraph) (vertices : List ℕ) → first_prune g ≡ None → first_prune (dropped g vertices) ≡ None
dropped-prune g vertices none =
    let marks = staying_marks vertices (length g.vertices) in
    none-dropped (has_refuted_condition g) (has_refuted_condition (dropped g vertices)) (rank marks) (λ e. refl) marks g.vertices none

pub dropped-settle : (g : EventGraph) (vertices : List ℕ) → first_settle g ≡ None → first_settle (dropped g vertices) ≡ None
dropped-settle g vertices none =
    let marks = staying_marks vertices (length g.vertices) in
    none-dropped (can_be_settled g) (can_be_settled (dropped g vertices)) (rank marks) (λ e. refl) marks g.vertices none
