use Rattle.std.proofs.Common.{drop}
use Rattle.model_core.specs.Rules.Slice.{sliced_values}
use Rattle.model_core.specs.Code.Views.{expression_of}
use Rattle.mark_laws.proofs.LeftInPlace.{LeftInPlace}
use Rattle.var_slicing.proofs.dropping_variables.slice_values.Given as goal

abbrev pub invariant-loop-place : goal.invariant-loop-place
invariant-loop-place g l = LeftInPlace expression_of (λ i es. sliced_values l.staying (drop i (g.V.HasVars.vars l.beside)) es) l.initial.values.items l.values.items l.kept l.place
