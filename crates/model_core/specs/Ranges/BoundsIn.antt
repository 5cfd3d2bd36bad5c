-- The bounds of an expression under given ranges, each part under those that are left where it is evaluated.
use Rattle.std.specs.Prelude.{List}
use Rattle.model_core.specs.declared.bounds.Bounds.{Bounds}
use Rattle.model_core.specs.EventGraph.{EventGraph, Expression}
use Rattle.model_core.specs.Rules.BoundsOf.{bounds_under}
use Rattle.model_core.specs.declared.var_range.VarRange.{VarRange}
use Rattle.model_core.specs.Ranges.OtherRanges.{with_ranges}
use Rattle.model_core.specs.Ranges.Refined.{refined}

-- from these ranges in place of the declared ones
abbrev pub bounds_in : EventGraph → List VarRange → Expression → Bounds
bounds_in g ranges e = bounds_under refined (with_ranges g.variables ranges) e
