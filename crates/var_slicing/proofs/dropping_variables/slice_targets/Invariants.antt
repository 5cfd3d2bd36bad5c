use Rattle.model_core.specs.Rules.Slice.{sliced_targets}
use Rattle.model_core.specs.Code.Views.{location_of}
use Rattle.mark_laws.proofs.LeftInPlace.{LeftInPlace}
use Rattle.var_slicing.proofs.dropping_variables.slice_targets.Given as goal

abbrev pub invariant-loop-place : goal.invariant-loop-place
invariant-loop-place l = LeftInPlace location_of (λ i ls. sliced_targets l.staying ls) l.initial.targets.items l.targets.items l.kept l.place
