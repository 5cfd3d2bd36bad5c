use Rattle.std.proofs.Common.{◌≡◌, ◌<◌, ℕ, Bool, List, length, Option, None, sym, ◌∙◌, subst}
use Rattle.model_core.specs.Run.Pending.{Entry, same_values}
use Rattle.event_heap.specs.declared.node.Node.{Node}
use Rattle.event_heap.specs.Inner.Tree.{Tree}
use Rattle.event_heap.proofs.Weights.{weight}
use Rattle.event_heap.proofs.Searching.{Searching}
use Rattle.event_heap.proofs.SearchSteps.{search-heap, search-there, search-found, search-aside, search-less, search-none}
use Rattle.event_heap.proofs.roots_set_aside.search.Goals as goal

-- the invariant where the heap's root is known
at_root : (test : Entry → Bool) (old now : List Node) (t : Tree) (heap root kept : Option ℕ) → heap ≡ root → Searching test old now t heap kept → Searching test old now t root kept
at_root test old now t heap root kept e q = subst (λ o. Searching test old now t o kept) e q

pub detach_root-heap-requires-clause-heap : goal.detach_root-heap-requires-clause-heap
detach_root-heap-requires-clause-heap g c =
    let (v, t, h) = c.requires.heap in
    let (s, heap) = search-heap (λ e. same_values e.values c.args.values.now.items) c.args.nodes.now c.loop-heap.nodes v t c.args.root c.loop-heap.kept c.in-Some.top h (at_root _ _ _ t c.loop-heap.heap _ c.loop-heap.kept c.in-Some.is (c.loop-heap.invariant v t h)) in
    (v, s, heap)

pub carries-requires-clause-there : goal.carries-requires-clause-there
carries-requires-clause-there g c =
    let (v, t, h) = c.requires.heap in
    (search-there (λ e. same_values e.values c.args.values.now.items) c.args.nodes.now c.loop-heap.nodes v t c.args.root c.loop-heap.kept c.in-Some.top h (at_root _ _ _ t c.loop-heap.heap _ c.loop-heap.kept c.in-Some.is (c.loop-heap.invariant v t h)) c.detach_root-heap.new.nodes c.detach_root-heap.result c.detach_root-heap.ensures.detaches).0

pub carries-requires-clause-event : goal.carries-requires-clause-event
carries-requires-clause-event g c =
    let (v, t, h) = c.requires.heap in
    (search-there (λ e. same_values e.values c.args.values.now.items) c.args.nodes.now c.loop-heap.nodes v t c.args.root c.loop-heap.kept c.in-Some.top h (at_root _ _ _ t c.loop-heap.heap _ c.loop-heap.kept c.in-Some.is (c.loop-heap.invariant v t h)) c.detach_root-heap.new.nodes c.detach_root-heap.result c.detach_root-heap.ensures.detaches).1

pub set_aside-requires : goal.set_aside-requires
set_aside-requires g c =
    let (v, t, h) = c.requires.heap in
    (search-there (λ e. same_values e.values c.args.values.now.items) c.args.nodes.now c.loop-heap.nodes v t c.args.root c.loop-heap.kept c.in-Some.top h (at_root _ _ _ t c.loop-heap.heap _ c.loop-heap.kept c.in-Some.is (c.loop-heap.invariant v t h)) c.detach_root-heap.new.nodes c.detach_root-heap.result c.detach_root-heap.ensures.detaches).0

pub returns-then-carries : goal.returns-then-carries
returns-then-carries g c v t h =
    search-found (λ e. same_values e.values c.args.values.now.items) c.args.nodes.now c.loop-heap.nodes v t c.args.root c.loop-heap.kept c.in-Some.top h (at_root _ _ _ t c.loop-heap.heap _ c.loop-heap.kept c.in-Some.is (c.loop-heap.invariant v t h)) c.detach_root-heap.new.nodes c.detach_root-heap.result c.detach_root-heap.ensures.detaches
    (λ y e. sym (c.carries.ensures y e) ∙ c.if-carries.true)

pub loop-heap-smaller : goal.loop-heap-smaller
loop-heap-smaller g c =
    let (v, t, h) = c.requires.heap in
    subst (λ o. weight c.set_aside.new.nodes (length c.set_aside.new.nodes) c.detach_root-heap.result < weight c.loop-heap.nodes (length c.loop-heap.nodes) o) (sym c.in-Some.is) (search-less (λ e. same_values e.values c.args.values.now.items) c.args.nodes.now c.loop-heap.nodes v t c.args.root c.loop-heap.kept c.in-Some.top h (at_root _ _ _ t c.loop-heap.heap _ c.loop-heap.kept c.in-Some.is (c.loop-heap.invariant v t h)) c.detach_root-heap.new.nodes c.detach_root-heap.result c.detach_root-heap.ensures.detaches
    c.set_aside.new.nodes (λ y e. sym (c.carries.ensures y e) ∙ c.if-carries.false) c.set_aside.ensures)

pub loop-heap-preserved : goal.loop-heap-preserved
loop-heap-preserved g c v t h =
    search-aside (λ e. same_values e.values c.args.values.now.items) c.args.nodes.now c.loop-heap.nodes v t c.args.root c.loop-heap.kept c.in-Some.top h (at_root _ _ _ t c.loop-heap.heap _ c.loop-heap.kept c.in-Some.is (c.loop-heap.invariant v t h)) c.detach_root-heap.new.nodes c.detach_root-heap.result c.detach_root-heap.ensures.detaches
    c.set_aside.new.nodes (λ y e. sym (c.carries.ensures y e) ∙ c.if-carries.false) c.set_aside.ensures

pub returns : goal.returns
returns g c v t h =
    search-none (λ e. same_values e.values c.args.values.now.items) c.args.nodes.now c.loop-heap.nodes v t c.loop-heap.kept (at_root _ _ _ t c.loop-heap.heap None c.loop-heap.kept c.in_default.is (c.loop-heap.invariant v t h))
