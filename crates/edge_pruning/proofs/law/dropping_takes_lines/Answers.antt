use Rattle.edge_pruning.proofs.DroppedLines.{lines-go, version-stays}
use Rattle.edge_pruning.proofs.law.dropping_takes_lines.Goals as goal

pub returns-clause-lines : goal.returns-clause-lines
returns-clause-lines c = lines-go

pub returns-clause-version : goal.returns-clause-version
returns-clause-version c = version-stays
