-- The successors of the place taken off are found.
use Rattle.std.proofs.Common.{◌<◌, sym, subst, List, ℕ}
use Rattle.marked_walks.specs.Inner.Finding.{Found, found_of, find_all, Going}
use Rattle.mark_laws.specs.PlacePairs.{successors_of}
use Rattle.marked_walks.proofs.FindingLaws.{left_over, finding_goes, less_left}
use Rattle.marked_walks.proofs.entailing.Finder.follow.Goals as goal

pub loop-place-smaller : goal.loop-place-smaller
loop-place-smaller g c =
    let marks = c.loop-place.self.marks.items in
    let rest = c.pop.new.self.items in
    let k = c.in-Some.place in
    let ts = successors_of (g.N.PlaceSuccessors.lists c.args.next.now) k in
    subst (λ (f : Found). left_over f < left_over (found_of c.loop-place.self)) (sym c.in_ok-follow_one.ensures)
    (subst (λ (ks : List ℕ). left_over (find_all (record { marks = marks; waiting = rest }) ts) < left_over (record { marks = marks; waiting = ks })) (sym c.in-Some.ensures.items) (less_left marks rest k ts))

pub loop-place-preserved : goal.loop-place-preserved
loop-place-preserved g c =
    let first = c.args.first.now in
    let next = g.N.PlaceSuccessors.lists c.args.next.now in
    let marks = c.loop-place.self.marks.items in
    let rest = c.pop.new.self.items in
    let k = c.in-Some.place in
    subst (Going first next) (sym c.in_ok-follow_one.ensures)
    (finding_goes first next marks rest k (subst (λ (ks : List ℕ). Going first next (record { marks = marks; waiting = ks })) c.in-Some.ensures.items c.loop-place.invariant))
