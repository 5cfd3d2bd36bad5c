use Rattle.std.proofs.Common.{◌≡◌, map, drop}
use Rattle.std.specs.List.{list_all}
use Rattle.model_core.specs.Rules.Uses.{vertex_writes}
use Rattle.model_core.specs.Rules.Merge.{is_unwatched}
use Rattle.model_core.specs.Code.Views.{watched_of, vertex_of}
use Rattle.merge_rules.proofs.conditions.all_unwatched.Given as goal

abbrev pub invariant-loop-item : goal.invariant-loop-item
invariant-loop-item l =
    list_all (is_unwatched (vertex_writes (vertex_of l.second))) (map watched_of (drop l.item-index l.watch))
    ≡ list_all (is_unwatched (vertex_writes (vertex_of l.second))) (map watched_of l.watch)
