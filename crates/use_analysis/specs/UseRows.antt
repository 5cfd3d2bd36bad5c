-- The table of uses, and the plain row that a row of it is seen as.
use Rattle.std.specs.Prelude.{List, map, length}
use Rattle.std.specs.List.{range_with_len}
use Rattle.model_core.specs.EventGraph.{EventGraph}
use Rattle.model_core.specs.Rules.Uses.{VariableUses, uses_of}
use Rattle.use_analysis.specs.declared.table.UseRow.{UseRow}

abbrev pub uses_row : UseRow → VariableUses
uses_row r = record { readers = r.readers; writers = r.writers; watched = r.watched }

-- for each variable, in the order of declaration
abbrev pub use_table : EventGraph → List VariableUses
use_table g = map (uses_of g) (range_with_len 0 (length g.variables))
