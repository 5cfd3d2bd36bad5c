use Rattle.std.proofs.Common.{◌≡◌, ◌++◌, map, drop}
use Rattle.std.specs.List.{flat_map}
use Rattle.model_core.specs.Code.Views.{variable_of}
use Rattle.model_core.specs.Text.SnapshotGrammar.{WrittenValue}
use Rattle.model_core.specs.Saved.GoodSnapshots.{first_bad_part, value_parts, signed_values}
use Rattle.snapshot_text.specs.Inner.RawParts.{written_value}
use Rattle.snapshot_text.proofs.values.values_of.Given as goal

abbrev pub invariant-loop-place : goal.invariant-loop-place
invariant-loop-place l =
    (first_bad_part (value_parts (map variable_of (drop l.place l.model.vars)) (map written_value (drop l.place l.values))) ≡ first_bad_part (value_parts (map variable_of l.model.vars) (map written_value l.values)))
    × (l.all.items ++ flat_map (λ (w : WrittenValue). signed_values w.values) (map written_value (drop l.place l.values)) ≡ flat_map (λ (w : WrittenValue). signed_values w.values) (map written_value l.values))
