-- The kind that a value must have, by its place among others.
use Rattle.std.specs.Prelude.{ℕ, List, Option, Some, None, slice_get}
use Rattle.model_core.specs.declared.model.Kind.{Kind}

-- the kind, where the list has one at the place and it is known
abbrev pub kind_or_none : Option (Option Kind) → Option Kind
kind_or_none None = None
kind_or_none (Some kind) = kind

-- the kind that the value at this place must have
abbrev pub wanted : List (Option Kind) → ℕ → Option Kind
wanted kinds i = kind_or_none (slice_get kinds i)
