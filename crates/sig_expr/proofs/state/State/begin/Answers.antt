use Rattle.std.proofs.Common.{rules, arith, ap, length, w64}
use Rattle.std.proofs.lemmas.Int.{to_z-of_z}
use Rattle.sig_expr.proofs.Begun.{begun_more, all_begun}
use Rattle.sig_expr.proofs.state.State.begin.Goals as goal

pub loop-var-preserved : goal.loop-var-preserved
loop-var-preserved c =
    begun_more c.as_slice-vars.result.now c.loop-var.var-index c.var-item.result c.loop-var.cells.items _ c.loop-var.spans.items _ _
    (omega arith) c.var-item.is (rw (c.cell_count.ensures, to_z-of_z w64 c.var-item.result.initial (search rules)) at c.in_ok-add_cells.ensures) c.in_ok-push.ensures.items (search rules) c.cell_count.ensures c.loop-var.invariant

pub returns : goal.returns
returns c = all_begun c.args.model.now c.loop-var.var-index c.loop-var.cells.items c.loop-var.spans.items (rw c.as_slice-vars.ensures at c.loop-var.invariant) (omega (arith, ap length c.as_slice-vars.ensures))
