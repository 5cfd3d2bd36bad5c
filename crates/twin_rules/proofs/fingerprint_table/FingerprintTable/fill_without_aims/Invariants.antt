use Rattle.std.proofs.Common.{◌≡◌, length}
use Rattle.model_core.specs.Code.Views.{graph_of}
use Rattle.twin_rules.specs.Inner.KeptFingerprints.{AreFingerprintsOfAll}
use Rattle.twin_rules.proofs.fingerprint_table.FingerprintTable.fill_without_aims.Given as goal

-- what is kept is kept of the vertices before this place
abbrev pub invariant-loop-place : goal.invariant-loop-place
invariant-loop-place l = record {
  long : length l.self ≡ l.place;
  kept : AreFingerprintsOfAll (graph_of l.model) l.self;
}
