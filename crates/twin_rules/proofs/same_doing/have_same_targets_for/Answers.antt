-- Where targets at one place differ, the edges differ.
use Rattle.std.proofs.Common.{arith, ◌∙◌, sym, ap, ℕ}
use Rattle.model_core.specs.declared.vertex.Edge.{Edge}
use Rattle.model_core.specs.EventGraph.{EventEdge}
use Rattle.model_core.specs.Rules.Drop.{edge_renumbered}
use Rattle.model_core.specs.Rules.Fuse.{standing_for}
use Rattle.model_core.specs.Code.Views.{edge_of}
use Rattle.twin_rules.proofs.AlikeVertices.{same_at}
use Rattle.twin_rules.proofs.same_doing.have_same_targets_for.Goals as goal

pub returns-then-standing_for : goal.returns-then-standing_for
returns-then-standing_for c = λ differs same.
    let below = c.loop-place-test.true in
    let long = c.requires in
    let at : Edge → ℕ = λ (e : Edge). standing_for c.args.keep c.args.gone e.target in
    let targets = ap (λ (e : EventEdge). e.target) (same_at edge_of (edge_renumbered (standing_for c.args.keep c.args.gone)) c.args.a.now c.args.b.now c.loop-place.place _ _ below (omega (arith, below, long)) c.index-a-place.is c.index-b-place.is same) in
    c.if-standing_for.true (c.standing_for.ensures ∙ (ap at (sym c.index-a-place.is) ∙ (targets ∙ (ap at c.index-b-place.is ∙ sym c.standing_for-in-loop-place.ensures))))
