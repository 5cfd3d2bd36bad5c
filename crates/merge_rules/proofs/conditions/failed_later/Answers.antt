use Rattle.std.proofs.Common.{◌≡◌, ℕ, refl, sym, ◌∙◌, ap, ap₂, Bool, true, ◌&&◌, ◌||◌, not, map, take, drop, List, [], ◌∷◌}
use Rattle.std.specs.List.{list_any, list_all}
use Rattle.model_core.specs.declared.vertex.Edge.{Edge}
use Rattle.model_core.specs.declared.vertex.Vertex.{Vertex}
use Rattle.model_core.specs.EventGraph.{EventGraph, EventVertex, has_drawn_delay}
use Rattle.model_core.specs.Run.Step.{vertex_at}
use Rattle.model_core.specs.Rules.BoundsOfParts.{quiet_edge}
use Rattle.model_core.specs.Rules.Uses.{vertex_writes}
use Rattle.model_core.specs.Rules.Conditions.{first_failed}
use Rattle.model_core.specs.Rules.Merge.{merge_conditions, cancels, is_watched_vertex, reads_none_of, happens_unseen, values_at_once, other_edges}
use Rattle.model_core.specs.Code.Views.{graph_of, edge_of, vertex_of}
use Rattle.merge_rules.proofs.conditions.failed_later.Goals as goal

abbrev fourth : EventGraph → ℕ → Bool
fourth g second = not (is_watched_vertex g second)

abbrev fifth : ℕ → EventVertex → Bool
fifth second a = not (list_any (cancels second) a.edges)

abbrev sixth : EventGraph → EventVertex → EventVertex → Bool
sixth g a b = list_all (λ e. quiet_edge g e && reads_none_of (vertex_writes b) e && not (has_drawn_delay e)) (other_edges a)

abbrev seventh : EventGraph → ℕ → EventVertex → EventVertex → Bool
seventh g first a b = not (is_watched_vertex g first) || happens_unseen g b (values_at_once a)

-- the first that fails, where it is known what each of the four is
later_four : (g : EventGraph) (first second : ℕ) {w x y z : Bool} → let a = vertex_at g first in let b = vertex_at g second in
    fourth g second ≡ w → fifth second a ≡ x → sixth g a b ≡ y → seventh g first a b ≡ z
    → first_failed (true ∷ true ∷ true ∷ w ∷ x ∷ y ∷ z ∷ []) ≡ first_failed (true ∷ true ∷ true ∷ drop 3 (take 7 (merge_conditions g first second)))
later_four g first second d e f h = λ i. first_failed (true ∷ true ∷ true ∷ sym d i ∷ sym e i ∷ sym f i ∷ sym h i ∷ [])

-- what the code finds of the fifth
fifth-is : (second : ℕ) (v : EventVertex) (a : Vertex) (es : List Edge) (found is : Bool) → vertex_of a ≡ v → es ≡ a.edges → found ≡ list_any (cancels second) (map edge_of es) → found ≡ is → fifth second v ≡ not is
fifth-is second v a es found is same seen same_test test =
    ap (fifth second) (sym same) ∙ ap (λ (es : List Edge). not (list_any (cancels second) (map edge_of es))) (sym seen) ∙ ap not (sym same_test ∙ test)

pub returns-then-is_watched-clause-failed : goal.returns-then-is_watched-clause-failed
returns-then-is_watched-clause-failed t c =
    later_four (graph_of c.args.model.now) c.args.first c.args.second
    (ap not (sym c.is_watched.ensures ∙ c.if-is_watched.true)) refl refl refl

pub returns-then-one_cancels-clause-failed : goal.returns-then-one_cancels-clause-failed
returns-then-one_cancels-clause-failed t c =
    later_four (graph_of c.args.model.now) c.args.first c.args.second
    (ap not (sym c.is_watched.ensures ∙ c.if-is_watched.false)) (fifth-is c.args.second _ c.args.a.now c.as_slice.result.now c.one_cancels.result _ c.requires.first c.as_slice.ensures c.one_cancels.ensures c.if-one_cancels.true) refl refl

pub returns-then-not-other_edges_are_calm-clause-failed : goal.returns-then-not-other_edges_are_calm-clause-failed
returns-then-not-other_edges_are_calm-clause-failed t c =
    later_four (graph_of c.args.model.now) c.args.first c.args.second
    (ap not (sym c.is_watched.ensures ∙ c.if-is_watched.false)) (fifth-is c.args.second _ c.args.a.now c.as_slice.result.now c.one_cancels.result _ c.requires.first c.as_slice.ensures c.one_cancels.ensures c.if-one_cancels.false)
    (ap₂ (sixth (graph_of c.args.model.now)) (sym c.requires.first) (sym c.requires.second) ∙ sym c.other_edges_are_calm.ensures.is ∙ c.if-not-other_edges_are_calm.true) refl

pub returns-then-not-notes_stay-clause-failed : goal.returns-then-not-notes_stay-clause-failed
returns-then-not-notes_stay-clause-failed t c =
    later_four (graph_of c.args.model.now) c.args.first c.args.second
    (ap not (sym c.is_watched.ensures ∙ c.if-is_watched.false)) (fifth-is c.args.second _ c.args.a.now c.as_slice.result.now c.one_cancels.result _ c.requires.first c.as_slice.ensures c.one_cancels.ensures c.if-one_cancels.false)
    (ap₂ (sixth (graph_of c.args.model.now)) (sym c.requires.first) (sym c.requires.second) ∙ sym c.other_edges_are_calm.ensures.is ∙ c.if-not-other_edges_are_calm.false)
    (ap₂ (seventh (graph_of c.args.model.now) c.args.first) (sym c.requires.first) (sym c.requires.second) ∙ sym c.notes_stay.ensures ∙ c.if-not-notes_stay.true)

pub returns-clause-failed : goal.returns-clause-failed
returns-clause-failed t c =
    later_four (graph_of c.args.model.now) c.args.first c.args.second
    (ap not (sym c.is_watched.ensures ∙ c.if-is_watched.false)) (fifth-is c.args.second _ c.args.a.now c.as_slice.result.now c.one_cancels.result _ c.requires.first c.as_slice.ensures c.one_cancels.ensures c.if-one_cancels.false)
    (ap₂ (sixth (graph_of c.args.model.now)) (sym c.requires.first) (sym c.requires.second) ∙ sym c.other_edges_are_calm.ensures.is ∙ c.if-not-other_edges_are_calm.false)
    (ap₂ (seventh (graph_of c.args.model.now) c.args.first) (sym c.requires.first) (sym c.requires.second) ∙ sym c.notes_stay.ensures ∙ c.if-not-notes_stay.false)
