use Rattle.std.proofs.Common.{◌≡◌, drop}
use Rattle.mark_laws.specs.PlacePairs.{successors_of}
use Rattle.marked_walks.specs.Inner.Finding.{found_of, find_all}
use Rattle.marked_walks.proofs.entailing.Finder.follow_one.Given as goal

abbrev pub invariant-loop-nth : goal.invariant-loop-nth
invariant-loop-nth g l =
    find_all (found_of l.self) (drop l.nth (successors_of (g.N.PlaceSuccessors.lists l.next) l.place)) ≡ find_all (found_of l.initial.self) (successors_of (g.N.PlaceSuccessors.lists l.next) l.place)
