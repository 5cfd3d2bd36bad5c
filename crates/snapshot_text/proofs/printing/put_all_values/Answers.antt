-- One line more.
use Rattle.std.proofs.Common.{rules, map, drop, length, ap, ◌+◌, arith}
use Rattle.sig_base.proofs.Lists.{remaining_more}
use Rattle.model_core.specs.Code.Views.{variable_of}
use Rattle.snapshot_text.proofs.PrintedLines.{one_value_more}
use Rattle.snapshot_text.proofs.printing.put_all_values.Goals as goal

pub loop-var-preserved : goal.loop-var-preserved
loop-var-preserved c =
    let vars = c.args.model.now.vars in
    let i = c.loop-var.var-index in
    let more = remaining_more variable_of vars i c.var-item.result (omega (arith, ap length c.as_slice-var-items.ensures)) (rw c.as_slice-var-items.ensures at c.var-item.is) in (
      omega arith,
      one_value_more c.loop-var.out.items c.put_value.new.out.items (variable_of c.var-item.result) (map variable_of (drop (i + 1) vars)) c.args.values.now c.loop-var.from c.min.result _
          (search rules) (search rules) (rw more at c.loop-var.invariant.1),
    )
