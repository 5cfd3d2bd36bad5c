-- The next application drops the target of the merge, or the application is made by itself.
use Rattle.std.proofs.Common.{sym, ap, subst, map, drop}
use Rattle.std.proofs.lemmas.Result.{IfOk-weaker}
use Rattle.model_core.specs.Code.Views.{graph_of, application_of}
use Rattle.model_core.specs.Rules.Reduction.{RuleApplication}
use Rattle.reduction_cert.specs.Inner.MergeBeforeDrop.{MadeInEffect}
use Rattle.reduction_cert.proofs.SameAfterDrop.{made_for}
use Rattle.reduction_cert.proofs.checking.apply_with_next.Goals as goal

pub returns-then-drops_alone-clause-made : goal.returns-then-drops_alone-clause-made
returns-then-drops_alone-clause-made c =
    let g = graph_of c.args.model.now in
    let later = map application_of (drop c.args.next c.args.applications.now) in
    let law = c.dropping_takes_no_notice_of_the_vertex.ensures in
    let (rest, is) = c.drops_alone.ensures.0 c.if-drops_alone.true in
    IfOk-weaker c.apply_merge.result _ _
    (λ made given. subst (λ (a : RuleApplication). MadeInEffect later g a made (graph_of c.apply_merge.new.model)) (sym (ap application_of c.in-Merge.is))
    (made_for law.conditions law.left g _ _ later rest made (graph_of c.apply_merge.new.model) is given))
    c.apply_merge.ensures.made
