use Rattle.std.proofs.Common.{◌≡◌, ℕ, ◌||◌, map, drop}
use Rattle.std.specs.List.{list_any}
use Rattle.model_core.specs.Code.Views.{vertex_of}
use Rattle.twin_rules.specs.Inner.MarkedVertices.{has_mark, one_marks}
use Rattle.twin_rules.proofs.marks.Marks.mark_all.Given as goal

-- what is marked, and what the vertices from this one on mark, is what shall be marked
abbrev pub invariant-loop-vertex : goal.invariant-loop-vertex
invariant-loop-vertex l = (x : ℕ) →
    (has_mark l.self x || list_any (one_marks l.cancelled x) (map vertex_of (drop l.vertex-index l.vertices)))
    ≡ (has_mark l.initial.self x || list_any (one_marks l.cancelled x) (map vertex_of l.vertices))
