use Rattle.std.proofs.Common.{◌≡◌, drop}
use Rattle.std.specs.List.{list_any}
use Rattle.model_core.specs.Run.Step.{vertex_at}
use Rattle.model_core.specs.Text.VersionNeeded.{has_later_parts}
use Rattle.model_core.specs.Code.Views.{graph_of}
use Rattle.model_facts.proofs.after_drop.one_is_later.Given as goal

abbrev pub invariant-loop-vertex : goal.invariant-loop-vertex
invariant-loop-vertex l =
    list_any (λ k. has_later_parts (vertex_at (graph_of l.model) k)) (drop l.vertex-index l.vertices)
    ≡ list_any (λ k. has_later_parts (vertex_at (graph_of l.model) k)) l.vertices
