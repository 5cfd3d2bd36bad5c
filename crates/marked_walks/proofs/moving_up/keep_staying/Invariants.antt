use Rattle.std.proofs.Common.{drop}
use Rattle.model_core.specs.Rules.MarkedPlaces.{marked_of}
use Rattle.mark_laws.proofs.LeftInPlace.{LeftInPlace}
use Rattle.marked_walks.proofs.moving_up.keep_staying.Given as goal

abbrev pub invariant-loop-place : goal.invariant-loop-place
invariant-loop-place g l = LeftInPlace (λ x. x) (λ i xs. marked_of (drop i l.staying) xs) l.initial.items.items l.items.items l.kept l.place
