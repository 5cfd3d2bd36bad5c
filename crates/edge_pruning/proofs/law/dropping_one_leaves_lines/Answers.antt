use Rattle.edge_pruning.proofs.LinesOfOthers.{lines-left}
use Rattle.edge_pruning.proofs.law.dropping_one_leaves_lines.Goals as goal

pub returns : goal.returns
returns c = lines-left
