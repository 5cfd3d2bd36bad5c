-- another vertex, or else the one that lacks the edge
use Rattle.model_core.specs.Code.Views.{graph_of}
use Rattle.model_print.proofs.VersionLines.{needed_pruned_before, needed_pruned_after}
use Rattle.model_print.proofs.version_without.needs_version_two_without_edge.Goals as goal

pub returns-then-needs_version_two_without : goal.returns-then-needs_version_two_without
returns-then-needs_version_two_without c = needed_pruned_before (graph_of c.args.model.now) c.args.vertex c.args.edge _ c.if-needs_version_two_without.true c.needs_version_two_without.ensures

pub returns-else-needs_version_two_without : goal.returns-else-needs_version_two_without
returns-else-needs_version_two_without c = needed_pruned_after (graph_of c.args.model.now) c.args.vertex c.args.edge _ _ c.if-needs_version_two_without.false c.needs_version_two_without.ensures (rw c.as_slice.ensures at c.shortened_has_later_parts.ensures)
