-- The applications have the same result on the copy as on the original.
use Rattle.std.proofs.Common.{◌≡◌, IfOk, map, subst}
use Rattle.model_core.specs.Code.Views.{graph_of, application_of}
use Rattle.model_core.specs.Rules.Verdict.{verdict}
use Rattle.reduction_cert.specs.VerdictView.{verdict_of}
use Rattle.reduction_cert.proofs.checking.check_chain.Goals as goal

pub returns : goal.returns
returns c = subst (λ g. IfOk c.verdict_after.result (λ v. verdict_of v ≡ verdict g (map application_of c.args.applications.now) (graph_of c.args.reduced.now))) c.in_ok-model.ensures c.verdict_after.ensures
