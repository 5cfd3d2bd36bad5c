use Rattle.model_core.specs.Rules.Slice.{sliced_parameters}
use Rattle.mark_laws.proofs.LeftInPlace.{LeftInPlace}
use Rattle.var_slicing.proofs.dropping_variables.slice_params.Given as goal

abbrev pub invariant-loop-place : goal.invariant-loop-place
invariant-loop-place l = LeftInPlace (λ v. v) (λ i vs. sliced_parameters l.staying vs) l.initial.params.items l.params.items l.kept l.place
