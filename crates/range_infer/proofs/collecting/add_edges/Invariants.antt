use Rattle.model_core.specs.Code.Views.{edge_of}
use Rattle.model_core.specs.EventGraph.{EventGraph, Variable}
use Rattle.std.proofs.Common.{List}
use Rattle.range_infer.specs.Inner.LookedAt.{edge_seen}
use Rattle.range_infer.proofs.PartsBeside.{GivenSoFar}
use Rattle.range_infer.proofs.collecting.add_edges.Given as goal

abbrev pub invariant-loop-place : goal.invariant-loop-place
invariant-loop-place l = GivenSoFar edge_of (λ (g : EventGraph) (rs : List Variable). edge_seen g l.look.all l.look.moved.now rs) l.edges l.place l.initial.left l.left l.initial.out.items l.out.items
