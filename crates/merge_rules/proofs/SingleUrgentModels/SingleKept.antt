-- A single urgent model stays single urgent where two of its vertices are merged.
use Rattle.std.proofs.Common.{◌≡◌, ℕ, true, false, cond, List, [], ◌∷◌, ◌++◌, map, filter, refl, ◌∙◌, ap}
use Rattle.std.specs.Prelude.{None}
use Rattle.std.specs.List.{AllByRecursion}
use Rattle.model_core.specs.EventGraph.{EventGraph, EventVertex, EventEdge, Expression}
use Rattle.model_core.specs.Run.Step.{vertex_at}
use Rattle.model_core.specs.Rules.Conditions.{first_failed}
use Rattle.model_core.specs.Rules.Exclusive.{exclusive}
use Rattle.model_core.specs.Rules.UrgentEdges.{is_urgent, each_pair, urgent_conditions, single_urgent}
use Rattle.model_core.specs.Rules.Merge.{merge_conditions, merged_with, merged}
use Rattle.model_core.proofs.AllHold.{every-holds}
use Rattle.vertex_laws.proofs.ApartVertices.{apart, apart_at, apart_placed}
use Rattle.merge_rules.proofs.SingleUrgentModels.PlainEdges.{PlainEdge}
use Rattle.merge_rules.proofs.OneStepForTwo.MergeHolds.{conditions_hold}
use Rattle.merge_rules.proofs.OneStepForTwo.MergeResult.{joined_is}

abbrev conditions : List EventEdge → List Expression
conditions es = map (λ (e : EventEdge). e.condition) es

module _ (g : EventGraph) where
  -- edges that aren't urgent add no condition
  conditions-after : (xs ys : List EventEdge) → AllByRecursion (λ e. is_urgent e ≡ false) xs → urgent_conditions (xs ++ ys) ≡ urgent_conditions ys
  conditions-after [] ys calm = refl
  conditions-after (x ∷ xs) ys (aside, calm) = ap (λ b. conditions (cond b (x ∷ filter is_urgent (xs ++ ys)) (filter is_urgent (xs ++ ys)))) aside ∙ conditions-after xs ys calm

  apart_joined : (a b : EventVertex) (second : ℕ) → PlainEdge a second → apart g b ≡ true → apart g (merged_with b a) ≡ true
  apart_joined a b second p clear =
      ap (apart g) (joined_is a b second p) ∙ ap (each_pair (exclusive g)) (conditions-after (p.before ++ p.after) b.edges p.calm) ∙ clear

pub merged_single : (g : EventGraph) (first second : ℕ) → first_failed (merge_conditions g first second) ≡ None → single_urgent (merged g first second) ≡ true
merged_single g first second holds =
    let single = (every-holds (merge_conditions g first second) holds).1.1.0 in
    apart_placed g (merged_with (vertex_at g second)) first g.vertices
    (apart_joined g (vertex_at g first) (vertex_at g second) second (conditions_hold g first second holds).edge (apart_at g g.vertices second single)) single
