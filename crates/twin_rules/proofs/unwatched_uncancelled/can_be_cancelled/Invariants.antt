use Rattle.std.proofs.Common.{◌≡◌, map, drop}
use Rattle.std.specs.List.{list_any}
use Rattle.model_core.specs.EventGraph.{EventVertex}
use Rattle.model_core.specs.Rules.Merge.{cancels}
use Rattle.model_core.specs.Code.Views.{vertex_of}
use Rattle.twin_rules.proofs.unwatched_uncancelled.can_be_cancelled.Given as goal

abbrev pub invariant-loop-vertex : goal.invariant-loop-vertex
invariant-loop-vertex l =
    list_any (λ (v : EventVertex). list_any (cancels l.target) v.edges) (map vertex_of (drop l.vertex-index l.model.vertices))
    ≡ list_any (λ (v : EventVertex). list_any (cancels l.target) v.edges) (map vertex_of l.model.vertices)
