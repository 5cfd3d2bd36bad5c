use Rattle.std.proofs.Common.{◌≡◌, ◌++◌, replicate}
use Rattle.sig_expr.proofs.state.add_cells.Given as goal

abbrev pub invariant-loop : goal.invariant-loop
invariant-loop l = l.cells.items ≡ l.initial.cells.items ++ replicate l.counter l.value
