-- One of the texts has come to its end.
use Rattle.std.proofs.Common.{sym, ◌∙◌}
use Rattle.model_pairs.proofs.FirstLines.{over_first, over_second}
use Rattle.model_pairs.proofs.lines_apart.first_lines_apart.Goals.{then-loop-left-test+else-not-is_empty, else-loop-left-test}
use Rattle.model_pairs.proofs.lines_apart.first_lines_apart.Goals as goal

pub returns : goal.returns
returns c = elim c.loop-left-test.branch [
  | then-loop-left-test+else-not-is_empty w ↦ over_second c.loop-left.line c.loop-left.left.now c.loop-left.right.now (sym w.is_empty-in-loop-left.ensures ∙ w.if-not-is_empty.false) ∙ c.loop-left.invariant.0
  | else-loop-left-test w ↦ over_first c.loop-left.line c.loop-left.left.now c.loop-left.right.now (sym c.is_empty.ensures ∙ w.loop-left-test.false) ∙ c.loop-left.invariant.0
]
