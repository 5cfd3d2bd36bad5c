use Rattle.std.proofs.Common.{◌≡◌, drop}
use Rattle.model_core.specs.Rules.PlacedEdges.{with_place}
use Rattle.range_infer.specs.Inner.Readers.{with_part, put_each, put_variables}
use Rattle.range_infer.proofs.readers.put_variables.Given as goal

abbrev pub invariant-loop-var : goal.invariant-loop-var
invariant-loop-var l = put_each (λ k lists v. with_place (with_part l.part) v lists) l.var-index l.readers.items (drop l.var-index l.vars) ≡ put_variables l.part l.initial.readers.items l.vars
