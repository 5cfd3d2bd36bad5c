use Rattle.std.proofs.Common.{◌≡◌, ◌++◌, ℤ, take, codes}
use Rattle.std.specs.Fmt.{signed_decimal}
use Rattle.std.specs.List.{flat_map}
use Rattle.snapshot_text.proofs.printing.put_later_values.Given as goal

abbrev pub invariant-loop-value : goal.invariant-loop-value
invariant-loop-value l = l.out.items ≡ l.initial.out.items ++ flat_map (λ (y : ℤ). codes "," ++ signed_decimal y) (take l.value-index l.values)
