use Rattle.std.proofs.Common.{◌≡◌, map, drop}
use Rattle.model_core.specs.EventGraph.{EventEdge}
use Rattle.model_core.specs.Code.Views.{edge_of}
use Rattle.twin_rules.specs.Inner.Fingerprints.{list_fingerprint_on, targets_fingerprint}
use Rattle.twin_rules.specs.Inner.KeptFingerprints.{number_in}
use Rattle.twin_rules.proofs.fingerprint_table.FingerprintTable.aims.Given as goal

-- the edges from this one on make the print of all of the print so far
abbrev pub invariant-loop-edge : goal.invariant-loop-edge
invariant-loop-edge l = list_fingerprint_on l.print (map (λ (e : EventEdge). number_in l.self e.target) (map edge_of (drop l.edge-index l.edges))) ≡ targets_fingerprint (number_in l.self) (map edge_of l.edges)
