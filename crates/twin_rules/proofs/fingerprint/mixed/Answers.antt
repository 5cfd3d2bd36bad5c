-- The definition computes what the code does.
use Rattle.std.proofs.Common.{rules}
use Rattle.twin_rules.specs.Inner.Fingerprints.{mixed}
use Rattle.twin_rules.proofs.fingerprint.mixed.Goals as goal

pub returns : goal.returns
unfolding mixed
returns c = search rules
