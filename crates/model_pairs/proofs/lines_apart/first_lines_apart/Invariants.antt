use Rattle.std.proofs.Common.{◌≡◌, ◌≤◌, ◌+◌, length}
use Rattle.model_pairs.specs.LinesOfTexts.{lines_of, first_lines_apart}
use Rattle.model_pairs.proofs.lines_apart.first_lines_apart.Given as goal

abbrev pub invariant-loop-left : goal.invariant-loop-left
invariant-loop-left l =
    (first_lines_apart l.line (lines_of l.left) (lines_of l.right) ≡ first_lines_apart 1 (lines_of l.first) (lines_of l.second))
    × (l.line + length l.left ≤ length l.first + 1)

abbrev pub decreases-loop-left : goal.decreases-loop-left
decreases-loop-left l = length l.left
