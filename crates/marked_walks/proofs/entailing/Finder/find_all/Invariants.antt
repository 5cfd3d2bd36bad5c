use Rattle.std.proofs.Common.{◌≡◌, drop}
use Rattle.marked_walks.specs.Inner.Finding.{found_of, find_all}
use Rattle.marked_walks.proofs.entailing.Finder.find_all.Given as goal

abbrev pub invariant-loop-place : goal.invariant-loop-place
invariant-loop-place l = find_all (found_of l.self) (drop l.place-index l.places) ≡ find_all (found_of l.initial.self) l.places
