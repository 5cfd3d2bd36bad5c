use Rattle.std.proofs.Common.{◌≡◌, ℕ, drop, sym, subst}
use Rattle.std.specs.Prelude.{IfOk}
use Rattle.tally_report.proofs.ReportRows.{length-sized_names}
use Rattle.tally_report.proofs.report.put_variable.Goals as goal

pub returns-clause-left : goal.returns-clause-left
returns-clause-left c =
    subst (λ (n : ℕ). IfOk c.put_cells.result (λ left. left.now ≡ drop n c.args.items.now)) (sym (length-sized_names c.args.var.now.name c.args.var.now.size c.if-var-eq0.false)) c.put_cells.ensures.left
