use Rattle.std.proofs.Common.{◌+◌, ◌-◌, ◌*◌, length}
use Rattle.model_core.specs.Code.Views.{graph_of}
use Rattle.range_infer.proofs.OneTurn.{Turn}
use Rattle.range_infer.proofs.inferring.make_rounds.Given as goal

abbrev pub invariant-loop-takes : goal.invariant-loop-takes
invariant-loop-takes l = Turn (graph_of l.model) l.rounds l.ranges.items l.takes.items

abbrev pub decreases-loop-takes : goal.decreases-loop-takes
decreases-loop-takes l = 17 + 2 * length (graph_of l.model).variables - l.rounds
