use Rattle.model_core.specs.Code.Views.{graph_of}
use Rattle.twin_rules.proofs.FingerprintsRenewed.{RenewedSoFar}
use Rattle.twin_rules.proofs.fingerprint_table.FingerprintTable.renew.Given as goal

abbrev pub invariant-loop-place : goal.invariant-loop-place
invariant-loop-place l = RenewedSoFar (graph_of l.model) l.initial.self l.self l.asked.changed l.place
