-- One after the other, and all in the end.
use Rattle.std.proofs.Common.{sym, ◌∙◌, ◌+◌, ◌≤◌, length, subst, arith, List}
use Rattle.model_core.specs.Code.Views.{graph_of}
use Rattle.twin_rules.specs.declared.vertex_fingerprint.VertexFingerprint.{VertexFingerprint}
use Rattle.twin_rules.proofs.FingerprintsRenewed.{RenewedSoFar, one-passed, one-renewed, all-renewed}
use Rattle.twin_rules.proofs.PrintLists.{no-longer}
use Rattle.twin_rules.proofs.fingerprint_table.FingerprintTable.renew.Goals.{then-has_changed, else-has_changed}
use Rattle.twin_rules.proofs.fingerprint_table.FingerprintTable.renew.Goals as goal

pub loop-place-preserved : goal.loop-place-preserved
loop-place-preserved c =
    let g = graph_of c.args.model.now in
    let changed = c.args.asked.now.changed in
    let place = c.loop-place.place in
    let so_far = c.loop-place.invariant in
    elim c.if-has_changed.branch [
      | then-has_changed w ↦ subst (λ (ps : List VertexFingerprint). RenewedSoFar g c.args.self.now ps changed (place + 1)) (sym w.self-is) (one-renewed g c.args.self.now c.loop-place.self changed place so_far w.renew_at.new.self w.renew_at.ensures)
      | else-has_changed w ↦ subst (λ (ps : List VertexFingerprint). RenewedSoFar g c.args.self.now ps changed (place + 1)) (sym w.self-is) (one-passed g c.args.self.now c.loop-place.self changed place so_far (sym c.has_changed.ensures ∙ w.if-has_changed.false))
    ]

pub returns : goal.returns
returns c =
    let few : length c.args.self.now ≤ c.self.inside.count = subst (λ (ps : List VertexFingerprint). length ps ≤ c.self.inside.count) c.self.view_is (no-longer c.self.inside.prints c.self.inside.count) in
    let past = c.loop-place-test.false in
    all-renewed (graph_of c.args.model.now) c.args.self.now c.loop-place.self c.args.asked.now.changed c.loop-place.place (omega (arith, few, past)) c.loop-place.invariant
