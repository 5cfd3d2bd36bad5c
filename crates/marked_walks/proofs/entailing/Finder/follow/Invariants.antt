use Rattle.marked_walks.specs.Inner.Finding.{found_of, Going}
use Rattle.marked_walks.proofs.FindingLaws.{left_over}
use Rattle.marked_walks.proofs.entailing.Finder.follow.Given as goal

abbrev pub invariant-loop-place : goal.invariant-loop-place
invariant-loop-place g l = Going l.first (g.N.PlaceSuccessors.lists l.next) (found_of l.self)

abbrev pub decreases-loop-place : goal.decreases-loop-place
decreases-loop-place g l = left_over (found_of l.self)
