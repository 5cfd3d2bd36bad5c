-- How many cells a tracer keeps of each watched thing.
use Rattle.std.specs.Prelude.{ℕ}
use Rattle.model_core.specs.EventGraph.{EventGraph, Watched, WatchedVariable, WatchedVertex}
use Rattle.model_core.specs.Saved.Cells.{cells_declared}

-- how many values there are of a watched thing
abbrev pub watched_size : EventGraph → Watched → ℕ
watched_size g (WatchedVariable v) = cells_declared g v
watched_size g (WatchedVertex v) = 0
