-- It begins with the first places, and ends where none waits.
use Rattle.std.proofs.Common.{◌∙◌, sym, ap, subst, ℕ, replicate, false}
use Rattle.marked_walks.specs.Inner.Finding.{found_of, Going}
use Rattle.marked_walks.proofs.FindingLaws.{finding_begins, finding_ends}
use Rattle.marked_walks.proofs.entailing.entailed.Goals as goal

pub follow-requires : goal.follow-requires
follow-requires g c =
    let first = c.args.first.now in
    let next = g.N.PlaceSuccessors.lists c.args.next.now in
    let f = found_of c.in_ok-finder.finder in
    subst (Going first next) (sym c.in_ok-find_all.ensures)
    (finding_begins first next f (c.in_ok-finder.ensures.marks ∙ ap (λ (n : ℕ). replicate n false) c.place_count.ensures) c.in_ok-finder.ensures.waiting)

pub returns : goal.returns
returns g c = finding_ends c.args.first.now (g.N.PlaceSuccessors.lists c.args.next.now) (found_of c.follow.new.self) c.in_ok-follow.ensures.going c.in_ok-follow.ensures.none_waits
