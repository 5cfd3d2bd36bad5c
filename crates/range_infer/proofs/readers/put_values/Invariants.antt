use Rattle.std.proofs.Common.{◌≡◌, drop}
use Rattle.range_infer.specs.Inner.Readers.{put_each, put_variables, put_values}
use Rattle.range_infer.proofs.readers.put_values.Given as goal

abbrev pub invariant-loop-value : goal.invariant-loop-value
invariant-loop-value l = put_each (λ k lists value. put_variables l.part lists value.vars) l.value-index l.readers.items (drop l.value-index l.values) ≡ put_values l.part l.initial.readers.items l.values
