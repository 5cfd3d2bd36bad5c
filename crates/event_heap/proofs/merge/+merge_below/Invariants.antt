use Rattle.std.proofs.Common.{◌+◌, Some}
use Rattle.event_heap.specs.Inner.NodeTrees.{rank_at}
use Rattle.event_heap.proofs.merge.+merge_below.Given as goal

abbrev pub decreases-merge_below : goal.decreases-merge_below
decreases-merge_below g l = rank_at l.nodes.now (Some l.top) + rank_at l.nodes.now (Some l.other)
