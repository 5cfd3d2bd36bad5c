-- The variables that aren't watched.
use Rattle.std.specs.Prelude.{ℕ, List, [], length}
use Rattle.model_core.specs.EventGraph.{EventGraph, watched_variables}
use Rattle.model_core.specs.Rules.MarkedPlaces.{unmarked_places}
use Rattle.model_core.specs.Rules.Entailed.{entailed_marks}

-- their places, in order
abbrev pub unwatched : EventGraph → List ℕ
unwatched g = unmarked_places (entailed_marks (length g.variables) (watched_variables g.watch) [])
