-- One range after another grows by what its variable keeps.
use Rattle.std.specs.Prelude.{List, slice_set}
use Rattle.model_core.specs.EventGraph.{EventGraph}
use Rattle.model_core.specs.Run.State.{variable_at}
use Rattle.model_core.specs.declared.incoming.Incoming.{Incoming}
use Rattle.model_core.specs.declared.var_range.VarRange.{VarRange}
use Rattle.model_core.specs.Ranges.OtherRanges.{range_at}
use Rattle.model_core.specs.Ranges.Incoming.{kept_range}
use Rattle.model_core.specs.Ranges.Inference.{hull}

-- the range of the variable that takes this grows, and the others stay
abbrev pub grown_by : EventGraph → List VarRange → Incoming → List VarRange
grown_by g ranges i = slice_set ranges i.variable (hull (range_at ranges i.variable) (kept_range (variable_at g i.variable) i.bounds))
