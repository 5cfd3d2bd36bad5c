-- Where no edge can be pruned or settled, none can be after a merge: bounds of conditions stay.
use Rattle.std.proofs.Common.{◌≡◌, ℕ, Bool, false, List, Option, Some, None}
use Rattle.std.specs.Prelude.{slice_index_or}
use Rattle.std.specs.List.{remove}
use Rattle.std.specs.Option.{option_map_or}
use Rattle.sig_base.proofs.Lists.{slice_index_or-all}
use Rattle.model_core.specs.EventGraph.{EventEdge, EventVertex, EventGraph}
use Rattle.model_core.specs.Run.Step.{no_vertex}
use Rattle.model_core.specs.Rules.PlacedEdges.{with_place, first_edge}
use Rattle.model_core.specs.Rules.Prune.{has_refuted_condition, first_prune}
use Rattle.model_core.specs.Rules.Settle.{can_be_settled, first_settle}
use Rattle.model_core.specs.Rules.UrgentEdges.{plain_urgent}
use Rattle.model_core.specs.Rules.Merge.{merged_vertex, values_at_once, merged_with, merged}
use Rattle.model_core.proofs.EachOne.{every-joined}
use Rattle.model_core.proofs.NoEdgePasses.{NoneOf, first_edge-none, none-first_edge, none-removed, none-placed}

module _ (test : EventEdge → Bool) where
  none-joined : (b a : EventVertex) → NoneOf test b.edges → NoneOf test a.edges → NoneOf test (merged_with b a).edges
  none-joined b a clear none = one (plain_urgent a) where
    one : (o : Option ℕ) → NoneOf test (option_map_or (merged_vertex b (values_at_once a) a) o a).edges
    one None = none
    one (Some k) = every-joined (λ e. test e ≡ false) (remove a.edges k) b.edges (none-removed test a.edges k none) clear

  none-merged : (vs : List EventVertex) (first second : ℕ) → first_edge test 0 vs ≡ None → first_edge test 0 (with_place (merged_with (slice_index_or vs second no_vertex)) first vs) ≡ None
  none-merged vs first second none =
      let clear = none-first_edge test 0 vs none in
      let b = slice_index_or vs second no_vertex in
      first_edge-none test 0 _ (none-placed test (merged_with b) (λ a. none-joined b a (slice_index_or-all (λ (v : EventVertex). NoneOf test v.edges) vs no_vertex second clear tt)) vs first clear)

pub merged-prune : (g : EventGraph) (first second : ℕ) → first_prune g ≡ None → first_prune (merged g first second) ≡ None
merged-prune g first second none = none-merged (has_refuted_condition g) g.vertices first second none

pub merged-settle : (g : EventGraph) (first second : ℕ) → first_settle g ≡ None → first_settle (merged g first second) ≡ None
merged-settle g first second none = none-merged (can_be_settled g) g.vertices first second none
