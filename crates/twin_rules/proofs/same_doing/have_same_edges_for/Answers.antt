-- Where edges at one place differ, the lists differ.
use Rattle.std.proofs.Common.{arith}
use Rattle.std.proofs.lemmas.Bool.{false≢true}
use Rattle.model_core.specs.Rules.Drop.{edge_renumbered}
use Rattle.model_core.specs.Rules.Fuse.{standing_for}
use Rattle.model_core.specs.Code.Views.{edge_of}
use Rattle.twin_rules.proofs.AlikeVertices.{same_at}
use Rattle.twin_rules.proofs.same_doing.have_same_edges_for.Goals as goal

pub returns-then-not-same_edge_for : goal.returns-then-not-same_edge_for
returns-then-not-same_edge_for c =
    (λ t. absurd (false≢true t), λ e. c.if-not-same_edge_for.ensures.1 (same_at edge_of (edge_renumbered (standing_for c.args.keep c.args.gone)) c.args.a.now c.args.b.now c.loop-place.place _ _ c.loop-place-test.true (omega (arith, c.if-a-b.false, c.loop-place-test.true)) c.index-a-place.is c.index-b-place.is e))
