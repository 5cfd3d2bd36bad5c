use Rattle.std.proofs.Common.{◌≡◌, ℕ, ◌||◌, map, drop}
use Rattle.std.specs.List.{list_any}
use Rattle.model_core.specs.Run.History.{watches}
use Rattle.model_core.specs.Code.Views.{watched_of}
use Rattle.twin_rules.specs.Inner.MarkedVertices.{has_mark}
use Rattle.twin_rules.proofs.marks.Marks.mark_watched.Given as goal

-- what is marked, and what the items from this one on mark, is what shall be marked
abbrev pub invariant-loop-item : goal.invariant-loop-item
invariant-loop-item l = (x : ℕ) →
    (has_mark l.self x || list_any (watches x) (map watched_of (drop l.item-index l.watch)))
    ≡ (has_mark l.initial.self x || list_any (watches x) (map watched_of l.watch))
