use Rattle.std.proofs.Common.{◌≡◌, map, drop}
use Rattle.std.specs.List.{list_any}
use Rattle.model_core.specs.Run.History.{watches}
use Rattle.model_core.specs.Code.Views.{watched_of}
use Rattle.model_core.proofs.watching.is_watched.Given as goal

abbrev pub invariant-loop-item : goal.invariant-loop-item
invariant-loop-item l =
    list_any (watches l.vertex) (map watched_of (drop l.item-index l.model.watch))
    ≡ list_any (watches l.vertex) (map watched_of l.model.watch)
