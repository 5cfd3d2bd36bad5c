use Rattle.std.specs.List.{flat_map}
use Rattle.model_core.specs.Rules.Slice.{sliced_change}
use Rattle.model_core.specs.Code.Views.{change_of}
use Rattle.mark_laws.proofs.LeftInPlace.{LeftInPlace}
use Rattle.var_slicing.proofs.dropping_variables.slice_changes.Given as goal

abbrev pub invariant-loop-place : goal.invariant-loop-place
invariant-loop-place l = LeftInPlace change_of (λ i cs. flat_map (sliced_change l.staying) cs) l.initial.changes.items l.changes.items l.kept l.place
