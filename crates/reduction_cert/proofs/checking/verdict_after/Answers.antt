-- Where no application is bad, the test of sameness decides.
use Rattle.std.proofs.Common.{rules, map, refl, ap}
use Rattle.model_core.specs.Code.Views.{application_of}
use Rattle.reduction_cert.proofs.Verdicts.{verdict-at_end}
use Rattle.reduction_cert.proofs.checking.verdict_after.Goals as goal

pub returns-then-same_model : goal.returns-then-same_model
returns-then-same_model c = verdict-at_end _ _ _ _ _ _ c.in_ok-line.field-0 _ _ refl (ap (map application_of) c.as_slice.ensures) c.in_default.is c.in_ok-line.ensures.bad (c.in_ok-line.ensures.reached (search rules)) c.same_model.ensures c.if-same_model.true

pub returns-else-same_model : goal.returns-else-same_model
returns-else-same_model c = verdict-at_end _ _ _ _ _ _ c.in_ok-line.field-0 _ _ refl (ap (map application_of) c.as_slice.ensures) c.in_default.is c.in_ok-line.ensures.bad (c.in_ok-line.ensures.reached (search rules)) c.same_model.ensures c.if-same_model.false
