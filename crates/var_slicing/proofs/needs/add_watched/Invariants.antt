use Rattle.std.proofs.Common.{◌≡◌, ◌++◌, map, drop}
use Rattle.model_core.specs.EventGraph.{watched_variables}
use Rattle.model_core.specs.Code.Views.{watched_of}
use Rattle.var_slicing.proofs.needs.add_watched.Given as goal

abbrev pub invariant-loop-watched : goal.invariant-loop-watched
invariant-loop-watched l =
    l.out.items ++ watched_variables (map watched_of (drop l.watched-index l.watch))
    ≡ l.initial.out.items ++ watched_variables (map watched_of l.watch)
