use Rattle.std.proofs.Common.{◌≡◌, take}
use Rattle.model_core.specs.Rules.Drop.{staying_marks}
use Rattle.edge_pruning.proofs.dropping.marks_without.Given as goal

abbrev pub invariant-loop-place : goal.invariant-loop-place
invariant-loop-place l = l.marks.items ≡ staying_marks (take l.place-index l.gone) l.count
