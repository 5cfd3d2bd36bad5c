use Rattle.std.proofs.Common.{◌≡◌, ◌++◌, ◌∷◌, map, drop}
use Rattle.model_core.specs.Code.Views.{watched_of}
use Rattle.edge_pruning.specs.Inner.Walk.{watched_vertices}
use Rattle.edge_pruning.proofs.walk.first_places.Given as goal

abbrev pub invariant-loop-watched : goal.invariant-loop-watched
invariant-loop-watched l = l.first.items ++ watched_vertices (map watched_of (drop l.watched-index l.watch)) ≡ 0 ∷ watched_vertices (map watched_of l.watch)
