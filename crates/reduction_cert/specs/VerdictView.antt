-- The plain verdict of the checker's answer.
use Rattle.model_core.specs.Rules.Verdict as plain
use Rattle.reduction_cert.specs.declared.checking.Verdict.{Verdict}
use Rattle.reduction_cert.specs.declared.checking.Verdict.TheVariants as verdicts

abbrev pub verdict_of : Verdict → plain.Verdict
verdict_of verdicts.Sound = plain.Sound
verdict_of (verdicts.Rejected line) = plain.Rejected line
verdict_of verdicts.Differs = plain.Differs
