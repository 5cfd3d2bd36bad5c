-- Two models that differ in the kind of the first vertex's parameter alone: a number of 0..1, and a truth value.
use Rattle.std.specs.Prelude.{codes}
use Rattle.model_core.specs.declared.model.Kind.TheVariants as kinds
use Rattle.model_core.specs.EventGraph.{EventGraph}
use Rattle.worked_runs.specs.Building.{ranged}
use Rattle.worked_runs.specs.Pairs.{asking}

abbrev pub asking_number : EventGraph
asking_number = asking (ranged (codes "X") 0 1 0)

abbrev pub asking_truth : EventGraph
asking_truth = asking (record (ranged (codes "X") 0 1 0) { kind = kinds.Truth })
