use Rattle.model_core.specs.Code.Views.{vertex_of}
use Rattle.model_core.specs.EventGraph.{EventGraph, Variable}
use Rattle.std.proofs.Common.{List}
use Rattle.range_infer.specs.Inner.LookedAt.{vertex_seen}
use Rattle.range_infer.proofs.PartsBeside.{GivenSoFar}
use Rattle.range_infer.proofs.collecting.add_vertices.Given as goal

abbrev pub invariant-loop-place : goal.invariant-loop-place
invariant-loop-place l = GivenSoFar vertex_of (λ (g : EventGraph) (rs : List Variable). vertex_seen g l.look.all l.look.moved.now rs) l.vertices l.place l.initial.left l.left l.initial.out.items l.out.items
