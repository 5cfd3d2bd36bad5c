use Rattle.std.proofs.Common.{◌≡◌, ℕ, ◌||◌, map, drop}
use Rattle.std.specs.List.{list_any}
use Rattle.model_core.specs.Code.Views.{edge_of}
use Rattle.twin_rules.specs.Inner.MarkedVertices.{has_mark, marks_at}
use Rattle.twin_rules.proofs.marks.Marks.mark_targets.Given as goal

-- what is marked, and what the edges from this one on mark, is what shall be marked
abbrev pub invariant-loop-edge : goal.invariant-loop-edge
invariant-loop-edge l = (x : ℕ) →
    (has_mark l.self x || list_any (marks_at l.cancelled x) (map edge_of (drop l.edge-index l.edges)))
    ≡ (has_mark l.initial.self x || list_any (marks_at l.cancelled x) (map edge_of l.edges))
