-- What says the same is one answer.
use Rattle.std.proofs.Common.{map}
use Rattle.std.specs.Bool.{one_answer}
use Rattle.model_core.specs.Rules.Drop.{edge_renumbered}
use Rattle.model_core.specs.Rules.Fuse.{standing_for}
use Rattle.model_core.specs.Code.Views.{edge_of}
use Rattle.twin_rules.proofs.AlikeVertices.{edges_decided}
use Rattle.twin_rules.proofs.same_doing.same_edges_for.Goals as goal

pub returns : goal.returns
returns c =
    let turned = edge_renumbered (standing_for c.args.keep c.args.gone) in
    one_answer _ _ c.have_same_edges_for.ensures (edges_decided (map turned (map edge_of c.args.a.now)) (map turned (map edge_of c.args.b.now)))
