-- One application more: its line joins those of the ones before.
use Rattle.model_core.specs.Code.Views.{application_of}
use Rattle.model_core.specs.Rules.Certificate.{application_line}
use Rattle.sig_base.proofs.Lists.{seen_more, one_more}
use Rattle.reduction_cert.proofs.certificate.put_applications.Goals as goal

pub loop-application-preserved : goal.loop-application-preserved
loop-application-preserved c = one_more application_line _ _ _ _ _ _ (seen_more application_of _ c.loop-application.application-index c.application-item.result c.loop-application-test.true c.application-item.is) c.in_ok-put_application.ensures c.loop-application.invariant
