use Rattle.std.proofs.Common.{◌≡◌, ◌++◌, take}
use Rattle.use_analysis.proofs.collecting.add_places.Given as goal

abbrev pub invariant-loop-place : goal.invariant-loop-place
invariant-loop-place l = l.out.items ≡ l.initial.out.items ++ take l.place-index l.places
