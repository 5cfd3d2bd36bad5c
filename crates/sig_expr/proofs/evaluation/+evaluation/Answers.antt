use Rattle.std.proofs.Common.{sym, ◌∙◌}
use Rattle.model_core.specs.Code.Views.{graph_of, expression_of}
use Rattle.sig_expr.proofs.Truths.{truth, passed_truth}
use Rattle.sig_expr.proofs.evaluation.+evaluation.Goals as goal

pub evaluate_parts-other_truth-requires : goal.evaluate_parts-other_truth-requires
evaluate_parts-other_truth-requires t c =
    passed_truth c.in_ok-value-in-Not.field-0
    (truth (graph_of c.args.model.now) c.args.state.now c.args.clk (expression_of c.in-Not.a.value) c.in_ok-value-in-Not.field-0 c.requires.inside (rw c.in-Not.is at c.requires.possible).0
    (rw c.deref-in-Not.ensures at (sym c.value-in-Not.ensures ∙ c.in_ok-value-in-Not.was)))
