use Rattle.std.proofs.Common.{◌≡◌, ◌++◌, map, take}
use Rattle.std.specs.List.{flat_map}
use Rattle.model_core.specs.Code.Views.{application_of}
use Rattle.model_core.specs.Rules.Certificate.{application_line}
use Rattle.reduction_cert.proofs.certificate.put_applications.Given as goal

abbrev pub invariant-loop-application : goal.invariant-loop-application
invariant-loop-application l = l.out.items ≡ l.initial.out.items ++ flat_map application_line (map application_of (take l.application-index l.applications))
