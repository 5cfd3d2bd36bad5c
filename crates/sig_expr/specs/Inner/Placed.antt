-- Places that a state of the model has.
use Rattle.std.specs.Prelude.{◌<◌, length}
use Rattle.model_core.specs.EventGraph.{EventGraph}
use Rattle.model_core.specs.Run.State.{Place, variable_at, cell_count}

-- a cell of a variable that is declared
pub record DeclaredPlace (g : EventGraph) (p : Place) : Type 0 where
  pub declared : p.variable < length g.variables
  pub inside : p.index < cell_count (variable_at g p.variable)
