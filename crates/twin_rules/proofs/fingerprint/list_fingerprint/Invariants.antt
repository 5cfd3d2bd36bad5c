use Rattle.std.proofs.Common.{◌≡◌, map, drop}
use Rattle.twin_rules.specs.Inner.Fingerprints.{list_fingerprint_on, list_fingerprint}
use Rattle.twin_rules.proofs.fingerprint.list_fingerprint.Given as goal

-- the parts from this one on make the print of all of the print so far
abbrev pub invariant-loop-part : goal.invariant-loop-part
invariant-loop-part g l = list_fingerprint_on l.print (map g.T.HasFingerprint.print (map g.T.HasFingerprint.plain (drop l.part-index l.parts))) ≡ list_fingerprint (map g.T.HasFingerprint.print (map g.T.HasFingerprint.plain l.parts))
