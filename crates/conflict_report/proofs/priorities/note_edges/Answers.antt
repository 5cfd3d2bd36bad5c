-- One edge more.
use Rattle.model_core.specs.Code.Views.{edge_of}
use Rattle.model_core.specs.Conflicts.Priorities.{edge_priorities}
use Rattle.sig_base.proofs.Lists.{seen_more}
use Rattle.conflict_report.proofs.NumbersNoted.{hold-part_more}
use Rattle.conflict_report.proofs.priorities.note_edges.Goals as goal

pub loop-edge-preserved : goal.loop-edge-preserved
loop-edge-preserved c =
    hold-part_more edge_priorities _ _ _ c.args.holders.now c.loop-edge.holders c.note_edge.new.holders (seen_more edge_of c.args.edges.now c.loop-edge.edge-index c.edge-item.result c.loop-edge-test.true c.edge-item.is) c.loop-edge.invariant c.in_ok-note_edge.ensures
