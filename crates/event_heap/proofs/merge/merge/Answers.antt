use Rattle.std.proofs.Common.{subst, Some}
use Rattle.event_heap.specs.Inner.NodeTrees.{TreesApart}
use Rattle.event_heap.proofs.MergeSteps.{rebuilt_none, rebuilt_alone}
use Rattle.event_heap.proofs.merge.merge.Goals as goal

pub returns-in_default-clause-merged : goal.returns-in_default-clause-merged
returns-in_default-clause-merged g c s u h = rebuilt_none c.args.nodes.now s u c.args.b (subst (λ a. TreesApart c.args.nodes.now s u a c.args.b) c.in_default.is h)

pub returns-in_default-b-clause-merged : goal.returns-in_default-b-clause-merged
returns-in_default-b-clause-merged g c s u h = rebuilt_alone c.args.nodes.now s u (Some c.in-Some.i) (subst (λ b. TreesApart c.args.nodes.now s u (Some c.in-Some.i) b) c.in_default-b.is (subst (λ a. TreesApart c.args.nodes.now s u a c.args.b) c.in-Some.is h))
