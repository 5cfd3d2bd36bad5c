use Rattle.std.proofs.Common.{[], arith}
use Rattle.model_core.specs.Code.Views.{graph_of}
use Rattle.model_core.specs.Conflicts.ConflictPairs.{conflicts_from}
use Rattle.model_core.proofs.NumbersInTurn.{next_joined}
use Rattle.conflict_report.proofs.pairs.conflict_list.Goals as goal

pub loop-a-preserved : goal.loop-a-preserved
loop-a-preserved c = next_joined (conflicts_from (graph_of c.args.model.now)) [] c.loop-a.pairs _ 0 c.loop-a.a (omega arith) c.in_ok-add_from.ensures c.loop-a.invariant
