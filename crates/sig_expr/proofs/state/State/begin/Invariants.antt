use Rattle.std.proofs.Common.{take}
use Rattle.sig_expr.proofs.Begun.{cells_for}
use Rattle.sig_expr.proofs.PieceLaws.{CutSoFar}
use Rattle.sig_expr.proofs.state.State.begin.Given as goal

abbrev pub invariant-loop-var : goal.invariant-loop-var
invariant-loop-var l = CutSoFar cells_for (take l.var-index l.vars) l.cells.items l.spans.items
