-- The values are good where there are enough and each of them fits.
use Rattle.std.proofs.Common.{◌≤◌, ◌+◌, ◌-◌, true, refl, length, sym, ap, ◌∙◌, arith}
use Rattle.model_core.specs.Run.State.{variable_at}
use Rattle.model_core.specs.Code.Views.{graph_of}
use Rattle.snapshot_text.specs.Inner.Judging.{if_good}
use Rattle.snapshot_text.proofs.FittingValues.{cells-good}
use Rattle.snapshot_text.proofs.values.add_cells.Goals as goal

pub returns-then-branch-clause-next : goal.returns-then-branch-clause-next
returns-then-branch-clause-next c =
    let cells = c.limits_of-cells in
    let some : cells.result.1 ≤ length c.args.values.now - c.args.from = omega (arith, c.if-cells-values.false) in
    let good = cells-good (variable_at (graph_of c.args.model.now) c.args.var) c.args.values.now c.args.from c.in_ok-add_fitting.field-0 cells.result.0.lo cells.result.0.hi cells.result.1 cells.ensures.cells cells.ensures.limits.0 cells.ensures.limits.1 some c.in_ok-add_fitting.ensures.all in
    rw (sym good ∙ c.if-branch.true) (ap (λ k. if_good true (c.args.from + k)) cells.ensures.cells)

pub returns-else-branch-clause-next : goal.returns-else-branch-clause-next
returns-else-branch-clause-next c =
    let cells = c.limits_of-cells in
    let some : cells.result.1 ≤ length c.args.values.now - c.args.from = omega (arith, c.if-cells-values.false) in
    let good = cells-good (variable_at (graph_of c.args.model.now) c.args.var) c.args.values.now c.args.from c.in_ok-add_fitting.field-0 cells.result.0.lo cells.result.0.hi cells.result.1 cells.ensures.cells cells.ensures.limits.0 cells.ensures.limits.1 some c.in_ok-add_fitting.ensures.all in
    rw (sym good ∙ c.if-branch.false) refl
