use Rattle.model_core.specs.Code.Views.{change_of}
use Rattle.model_core.specs.EventGraph.{EventGraph, Variable}
use Rattle.std.proofs.Common.{List}
use Rattle.range_infer.specs.Inner.LookedAt.{change_seen}
use Rattle.range_infer.proofs.PartsBeside.{GivenSoFar}
use Rattle.range_infer.proofs.collecting.add_changes.Given as goal

abbrev pub invariant-loop-place : goal.invariant-loop-place
invariant-loop-place l = GivenSoFar change_of (λ (g : EventGraph) (rs : List Variable). change_seen g l.look.all l.look.moved.now rs) l.changes l.place l.initial.left l.left l.initial.out.items l.out.items
