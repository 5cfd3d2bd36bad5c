-- The result of a merge is the model in which the first event does what the two do.
use Rattle.std.proofs.Common.{◌≡◌, ℕ, true, ◌++◌, None, sym, ◌∙◌, ap, subst, append_assoc}
use Rattle.std.specs.Option.{option_map_or}
use Rattle.model_core.specs.EventGraph.{EventGraph, EventVertex}
use Rattle.model_core.specs.Run.State.{in_range}
use Rattle.model_core.specs.Run.Step.{vertex_at, no_vertex}
use Rattle.model_core.specs.Run.Same.{Same}
use Rattle.model_core.specs.Static.OwnRules.{KeepsParts}
use Rattle.model_core.specs.Rules.Conditions.{first_failed}
use Rattle.model_core.specs.Rules.Merge.{merge_conditions, set_parameters, merged_vertex, merged_with, values_at_once, merged}
use Rattle.bound_laws.proofs.BeginsInRange.{kept_models_begin_in_range}
use Rattle.vertex_laws.proofs.PlacedElement.{same_placed}
use Rattle.merge_rules.proofs.OneStepForTwo.TwoInOne.{joined_vertex}
use Rattle.merge_rules.proofs.OneStepForTwo.MergedModels.{joined_at, merge_keeps}
use Rattle.merge_rules.proofs.SingleUrgentModels.SingleUrgent.{NeverBoth}
use Rattle.merge_rules.proofs.SingleUrgentModels.PlainEdges.{PlainEdge}
use Rattle.merge_rules.proofs.OneStepForTwo.MergeHolds.{conditions_hold}
use Rattle.merge_rules.proofs.OneStepForTwo.MergeNeeds.{QuietParts, merge_facts}

pub joined_is : (a b : EventVertex) (second : ℕ) (p : PlainEdge a second) → merged_with b a ≡ joined_vertex a (p.before ++ p.after) p.values b
joined_is a b second p =
    ap (λ o. option_map_or (merged_vertex b (values_at_once a) a) o a) p.is ∙
    (ap (λ values. merged_vertex b values a p.place) p.carries ∙
    λ i. record {
      name = a.name;
      parameters = a.parameters;
      changes = append_assoc a.changes (set_parameters b.parameters p.values) b.changes i;
      edges = p.rest i ++ b.edges;
    })

merged_is : (g : EventGraph) (first second : ℕ) (p : PlainEdge (vertex_at g first) second) → joined_at g first second (p.before ++ p.after) p.values ≡ merged g first second
merged_is g first second p =
    ap (λ vertices. record g { vertices = vertices })
    (same_placed (λ v. joined_vertex v (p.before ++ p.after) p.values (vertex_at g second)) (merged_with (vertex_at g second)) first g.vertices no_vertex (sym (joined_is (vertex_at g first) (vertex_at g second) second p)))

pub merged_same : (g : EventGraph) → KeepsParts g → NeverBoth g → QuietParts g → (first second : ℕ) → first_failed (merge_conditions g first second) ≡ None → Same g (merged g first second)
merged_same g keeps never quiet first second none =
    let h = conditions_hold g first second none in
    subst (Same g) (merged_is g first second h.edge)
    (merge_keeps g (λ s. in_range g s ≡ true) first second h.edge.before h.edge.after h.edge.values (merge_facts g keeps never quiet first second h) (kept_models_begin_in_range g keeps))
