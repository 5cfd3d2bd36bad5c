-- One more: what it adds joins what those before it added.
use Rattle.model_core.specs.Rules.Uses.{edge_reads}
use Rattle.model_core.specs.Code.Views.{edge_of}
use Rattle.sig_base.proofs.Lists.{seen_more, one_more}
use Rattle.use_analysis.proofs.collecting.add_all_edge_reads.Goals as goal

pub loop-edge-preserved : goal.loop-edge-preserved
loop-edge-preserved c = one_more edge_reads _ _ _ _ _ _ (seen_more edge_of _ c.loop-edge.edge-index c.edge-item.result c.loop-edge-test.true c.edge-item.is) c.in_ok-add_edge_reads.ensures c.loop-edge.invariant
