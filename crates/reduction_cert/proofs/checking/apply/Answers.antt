-- Nothing is known after a slice, and a merge whose second vertex stays is the rule's application.
use Rattle.std.proofs.Common.{◌≡◌, Some, None, cond, sym, ap, subst}
use Rattle.std.proofs.lemmas.Result.{IfOk-weaker}
use Rattle.model_core.specs.Code.Views.{graph_of, application_of}
use Rattle.model_core.specs.Rules.Reduction.{RuleApplication, applied}
use Rattle.reduction_cert.proofs.SameAfterDrop.{merge_applied}
use Rattle.reduction_cert.proofs.RuleAnswers.{holds_anyway}
use Rattle.reduction_cert.proofs.checking.apply.Goals as goal

pub returns-in-Slice-clause-facts : goal.returns-in-Slice-clause-facts
returns-in-Slice-clause-facts c = holds_anyway c.apply_slice.result (c.begin.ensures _)

pub returns-in-Merge-clause-made : goal.returns-in-Merge-clause-made
returns-in-Merge-clause-made c =
    let g = graph_of c.args.model.now in
    IfOk-weaker c.apply_merge.result _ _
    (λ made merged. subst (λ (a : RuleApplication). applied g a ≡ cond made (Some (graph_of c.apply_merge.new.model)) None) (sym (ap application_of c.in-Merge.is)) (merge_applied g _ _ made _ merged))
    c.apply_merge.ensures.made
