use Rattle.std.proofs.Common.{◌≡◌, map, drop}
use Rattle.std.specs.List.{list_any}
use Rattle.model_core.specs.Text.VersionNeeded.{has_later_parts}
use Rattle.model_core.specs.Code.Views.{vertex_of}
use Rattle.model_core.proofs.version.one_has_later_parts.Given as goal

abbrev pub invariant-loop-vertex : goal.invariant-loop-vertex
invariant-loop-vertex l =
    list_any has_later_parts (map vertex_of (drop l.vertex-index l.vertices))
    ≡ list_any has_later_parts (map vertex_of l.vertices)
