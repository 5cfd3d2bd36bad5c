-- The values of watched things in a state.
use Rattle.std.specs.Prelude.{ℤ, List, []}
use Rattle.model_core.specs.EventGraph.{Watched, WatchedVariable, WatchedVertex}
use Rattle.model_core.specs.Run.State.{State, cells_of}

-- a variable has those of its cells, and a vertex has none
abbrev pub values_watched : State → Watched → List ℤ
values_watched s (WatchedVariable v) = cells_of s v
values_watched s (WatchedVertex v) = []
