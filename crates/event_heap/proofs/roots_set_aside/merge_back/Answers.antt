use Rattle.std.proofs.Common.{◌≡◌, ℕ, List, Option, None, subst}
use Rattle.event_heap.specs.declared.node.Node.{Node}
use Rattle.event_heap.proofs.BackSteps.{BetweenMerges, back-there, back-merges, back-on, all-back}
use Rattle.event_heap.proofs.roots_set_aside.merge_back.Goals as goal

-- the invariant, if another term is the next node
at_next : (start now : List Node) (whole : ℕ → ℕ) (root next fresh : Option ℕ) → next ≡ fresh → BetweenMerges start now whole root next → BetweenMerges start now whole root fresh
at_next start now whole root next fresh e b = subst (BetweenMerges start now whole root) e b

pub left_of-next-requires : goal.left_of-next-requires
left_of-next-requires g c =
    let (whole, s, aside, can) = c.requires.split in
    back-there c.args.nodes.now c.loop-next.nodes whole s aside c.args.heap c.args.kept c.loop-next.root c.in-Some.place can (at_next _ _ whole _ c.loop-next.next _ c.in-Some.is (c.loop-next.invariant whole s aside can)) (rw c.loop-next.auto.nodes c.requires.small)

pub make_lone-requires : goal.make_lone-requires
make_lone-requires g c =
    let (whole, s, aside, can) = c.requires.split in
    back-there c.args.nodes.now c.loop-next.nodes whole s aside c.args.heap c.args.kept c.loop-next.root c.in-Some.place can (at_next _ _ whole _ c.loop-next.next _ c.in-Some.is (c.loop-next.invariant whole s aside can)) (rw c.loop-next.auto.nodes c.requires.small)

pub merge-root-requires : goal.merge-root-requires
merge-root-requires g c =
    let (whole, s, aside, can) = c.requires.split in
    back-merges c.args.nodes.now c.loop-next.nodes whole s aside c.args.heap c.args.kept c.loop-next.root c.in-Some.place can (at_next _ _ whole _ c.loop-next.next _ c.in-Some.is (c.loop-next.invariant whole s aside can)) (rw c.loop-next.auto.nodes c.requires.small) c.make_lone.new.nodes c.make_lone.ensures

pub loop-next-smaller : goal.loop-next-smaller
loop-next-smaller g c =
    let (whole, s, aside, can) = c.requires.split in
    let less = (back-on c.args.nodes.now c.loop-next.nodes whole s aside c.args.heap c.args.kept c.loop-next.root c.in-Some.place can (at_next _ _ whole _ c.loop-next.next _ c.in-Some.is (c.loop-next.invariant whole s aside can)) (rw c.loop-next.auto.nodes c.requires.small) c.make_lone.new.nodes c.make_lone.ensures c.merge-root.new.nodes c.merge-root.result c.merge-root.ensures.merged).1 in
    rw (c.left_of-next.ensures, c.in-Some.is) less

pub loop-next-preserved : goal.loop-next-preserved
loop-next-preserved g c whole s aside can =
    rw c.left_of-next.ensures (back-on c.args.nodes.now c.loop-next.nodes whole s aside c.args.heap c.args.kept c.loop-next.root c.in-Some.place can (at_next _ _ whole _ c.loop-next.next _ c.in-Some.is (c.loop-next.invariant whole s aside can)) (rw c.loop-next.auto.nodes c.requires.small) c.make_lone.new.nodes c.make_lone.ensures c.merge-root.new.nodes c.merge-root.result c.merge-root.ensures.merged).0

pub returns : goal.returns
returns g c whole s aside can = all-back c.args.nodes.now c.loop-next.nodes whole c.loop-next.root (at_next _ _ whole _ c.loop-next.next None c.in_default.is (c.loop-next.invariant whole s aside can))
