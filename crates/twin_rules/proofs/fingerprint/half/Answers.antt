-- The definition computes what the code does.
use Rattle.std.proofs.Common.{rules}
use Rattle.twin_rules.specs.Inner.Fingerprints.{half}
use Rattle.twin_rules.proofs.fingerprint.half.Goals as goal

pub returns : goal.returns
unfolding half
returns c = search rules
