use Rattle.model_pairs.proofs.FirstLines.{NoneBefore}
use Rattle.model_pairs.proofs.lines_apart.split_line.Given as goal

abbrev pub invariant-loop-place : goal.invariant-loop-place
invariant-loop-place l = NoneBefore l.text l.place
