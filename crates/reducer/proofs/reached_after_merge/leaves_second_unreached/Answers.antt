-- The second vertex is the first of all, or an edge leads to it, or it alone can't be reached.
use Rattle.std.proofs.Common.{sym, ◌∙◌}
use Rattle.model_core.specs.Rules.Merge.{merged}
use Rattle.reducer.proofs.ProgressAfterMerge.{reached-right}
use Rattle.reducer.proofs.reached_after_merge.leaves_second_unreached.Goals as goal

pub returns-then-second-eq0 : goal.returns-then-second-eq0
returns-then-second-eq0 c = λ g first all none are. c.merging_leaves_vertices_reached.ensures.first g first c.args.second all none c.if-second-eq0.true

pub returns : goal.returns
returns c = λ g first all none are.
    let is = c.has_incoming_edge.ensures (merged g first c.args.second) are in
    reached-right (merged g first c.args.second) c.args.second c.has_incoming_edge.result is
    (λ led. c.merging_leaves_vertices_reached.ensures.led g first c.args.second all none (sym is ∙ led))
    (λ unled. c.merging_leaves_vertices_reached.ensures.unled g first c.args.second all none c.if-second-eq0.false (sym is ∙ unled))
