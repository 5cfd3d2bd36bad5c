use Rattle.std.proofs.Common.{Some, None, refl, sym, subst}
use Rattle.model_core.specs.Run.Pending.{is_of}
use Rattle.event_heap.specs.Inner.Listed.{events_of}
use Rattle.event_heap.specs.Inner.Next.{IsNext}
use Rattle.event_heap.specs.Inner.Forest.{top_at}
use Rattle.event_heap.proofs.NextLaws.{first-of}
use Rattle.event_heap.proofs.EqualSteps.{none-with, can-merge, found-event, found-taken, none-found}
use Rattle.event_heap.proofs.equal_event.take_equal.Goals as goal

pub returns-in_default-clause-next : goal.returns-in_default-clause-next
returns-in_default-clause-next g c =
    let (trees, chain, f) = c.requires.sound in
    (None, (refl, none-with c.args.vertex c.args.values.now.items (events_of c.args.nodes.now) (subst (λ o. IsNext (is_of c.args.vertex) (events_of c.args.nodes.now) (top_at c.args.nodes.now o)) (sym c.in_default.ensures) (first-of c.args.nodes.now c.args.roots.now c.args.free.now trees chain f c.args.vertex))), refl)

pub merge_back-rest-requires-clause-split : goal.merge_back-rest-requires-clause-split
merge_back-rest-requires-clause-split g c = can-merge c.args.values.now.items c.args.nodes.now c.search-split.new.nodes c.args.roots.now c.args.free.now c.args.vertex c.in-Some.root c.search-split.result.found c.search-split.result.rest c.search-split.result.kept c.requires.sound c.in-Some.ensures c.search-split.ensures

pub returns-in-Some-found-clause-sound : goal.returns-in-Some-found-clause-sound
returns-in-Some-found-clause-sound g c =
    let (x, at) = found-event c.args.values.now.items c.args.nodes.now c.search-split.new.nodes c.merge_back-rest.new.nodes c.args.roots.now c.args.free.now c.args.vertex c.in-Some.root c.search-split.result.found c.search-split.result.rest c.search-split.result.kept c.merge_back-rest.result c.requires.sound c.in-Some.ensures c.search-split.ensures c.merge_back-rest.ensures c.in-Some-found.place c.in-Some-found.is in
    rw c.release.ensures.free (found-taken c.args.values.now.items c.args.nodes.now c.search-split.new.nodes c.merge_back-rest.new.nodes c.args.roots.now c.args.free.now c.args.vertex c.in-Some.root c.search-split.result.found c.search-split.result.rest c.search-split.result.kept c.merge_back-rest.result c.requires.sound c.in-Some.ensures c.search-split.ensures c.merge_back-rest.ensures c.release.new.nodes c.in-Some-found.place x c.in-Some-found.is at c.release.ensures.nodes).sound

pub returns-in-None-clause-sound : goal.returns-in-None-clause-sound
returns-in-None-clause-sound g c = (none-found c.args.values.now.items c.args.nodes.now c.search-split.new.nodes c.merge_back-rest.new.nodes c.args.roots.now c.args.free.now c.args.vertex c.in-Some.root c.search-split.result.found c.search-split.result.rest c.search-split.result.kept c.merge_back-rest.result c.requires.sound c.in-Some.ensures c.search-split.ensures c.merge_back-rest.ensures c.in-None.is).sound

pub returns-in-Some-found-clause-next : goal.returns-in-Some-found-clause-next
returns-in-Some-found-clause-next g c =
    let (x, at) = found-event c.args.values.now.items c.args.nodes.now c.search-split.new.nodes c.merge_back-rest.new.nodes c.args.roots.now c.args.free.now c.args.vertex c.in-Some.root c.search-split.result.found c.search-split.result.rest c.search-split.result.kept c.merge_back-rest.result c.requires.sound c.in-Some.ensures c.search-split.ensures c.merge_back-rest.ensures c.in-Some-found.place c.in-Some-found.is in
    (Some x, (found-taken c.args.values.now.items c.args.nodes.now c.search-split.new.nodes c.merge_back-rest.new.nodes c.args.roots.now c.args.free.now c.args.vertex c.in-Some.root c.search-split.result.found c.search-split.result.rest c.search-split.result.kept c.merge_back-rest.result c.requires.sound c.in-Some.ensures c.search-split.ensures c.merge_back-rest.ensures c.release.new.nodes c.in-Some-found.place x c.in-Some-found.is at c.release.ensures.nodes).next, refl)

pub returns-in-None-clause-next : goal.returns-in-None-clause-next
returns-in-None-clause-next g c = (None, (none-found c.args.values.now.items c.args.nodes.now c.search-split.new.nodes c.merge_back-rest.new.nodes c.args.roots.now c.args.free.now c.args.vertex c.in-Some.root c.search-split.result.found c.search-split.result.rest c.search-split.result.kept c.merge_back-rest.result c.requires.sound c.in-Some.ensures c.search-split.ensures c.merge_back-rest.ensures c.in-None.is).next, refl)

pub returns-in-Some-found-clause-others : goal.returns-in-Some-found-clause-others
returns-in-Some-found-clause-others g c =
    let (x, at) = found-event c.args.values.now.items c.args.nodes.now c.search-split.new.nodes c.merge_back-rest.new.nodes c.args.roots.now c.args.free.now c.args.vertex c.in-Some.root c.search-split.result.found c.search-split.result.rest c.search-split.result.kept c.merge_back-rest.result c.requires.sound c.in-Some.ensures c.search-split.ensures c.merge_back-rest.ensures c.in-Some-found.place c.in-Some-found.is in
    (found-taken c.args.values.now.items c.args.nodes.now c.search-split.new.nodes c.merge_back-rest.new.nodes c.args.roots.now c.args.free.now c.args.vertex c.in-Some.root c.search-split.result.found c.search-split.result.rest c.search-split.result.kept c.merge_back-rest.result c.requires.sound c.in-Some.ensures c.search-split.ensures c.merge_back-rest.ensures c.release.new.nodes c.in-Some-found.place x c.in-Some-found.is at c.release.ensures.nodes).others

pub returns-in-None-clause-others : goal.returns-in-None-clause-others
returns-in-None-clause-others g c = (none-found c.args.values.now.items c.args.nodes.now c.search-split.new.nodes c.merge_back-rest.new.nodes c.args.roots.now c.args.free.now c.args.vertex c.in-Some.root c.search-split.result.found c.search-split.result.rest c.search-split.result.kept c.merge_back-rest.result c.requires.sound c.in-Some.ensures c.search-split.ensures c.merge_back-rest.ensures c.in-None.is).others
