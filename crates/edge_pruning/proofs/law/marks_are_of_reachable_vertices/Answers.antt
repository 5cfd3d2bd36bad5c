use Rattle.model_core.specs.Rules.Reached.{reached_marks}
use Rattle.edge_pruning.proofs.ReachedMarks.{reachable-marked, reached_marks-hold, reached_marks-reachable}
use Rattle.edge_pruning.proofs.law.marks_are_of_reachable_vertices.Goals as goal

pub returns : goal.returns
returns c = λ g vertex below. (reached_marks-reachable g vertex, λ reachable. reachable-marked g (reached_marks g) (reached_marks-hold g) reachable below)
