use Rattle.model_core.specs.Code.WrittenViews.{written_edge}
use Rattle.model_core.specs.Static.Meanings.{meaning_of}
use Rattle.sig_types.proofs.EdgeParts.{edge_checked}
use Rattle.sig_types.proofs.edges.edge.Goals as goal

pub returns : goal.returns
returns c =
    edge_checked (meaning_of c.args.names.now) c.args.taken.now _ _ _ _ _ (written_edge c.args.raw.now) c.vertex-target.result _ _ _ _ c.vertex-target.ensures.means c.unwrap_or.ensures
    c.vertex-target.ensures.checked c.in_ok-values.ensures (c.in_ok-form.ensures c.args.taken.now) c.in_ok-condition.ensures
