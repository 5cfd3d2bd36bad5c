use Rattle.std.proofs.Common.{sym, ◌∙◌}
use Rattle.event_heap.proofs.MergeSteps.{can_compare, rebuilt_second, rebuilt_first}
use Rattle.event_heap.proofs.merge.merge_roots.Goals as goal

pub comes_first-requires : goal.comes_first-requires
comes_first-requires g c =
    let (s, u, h) = c.requires in
    can_compare c.args.nodes.now s u c.args.i c.args.j h

pub returns-then-comes_first-clause-merged : goal.returns-then-comes_first-clause-merged
returns-then-comes_first-clause-merged g c s u h = rebuilt_second c.args.nodes.now c.merge_below.new.nodes s u c.args.i c.args.j (λ y x p q. sym (c.comes_first.ensures.before y x p q) ∙ c.if-comes_first.true) c.merge_below.ensures.merged h

pub returns-else-comes_first-clause-merged : goal.returns-else-comes_first-clause-merged
returns-else-comes_first-clause-merged g c s u h = rebuilt_first c.args.nodes.now c.merge_below-else-comes_first.new.nodes s u c.args.i c.args.j (λ y x p q. sym (c.comes_first.ensures.before y x p q) ∙ c.if-comes_first.false) c.merge_below-else-comes_first.ensures.merged h
