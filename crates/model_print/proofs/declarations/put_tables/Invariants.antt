use Rattle.std.proofs.Common.{map, take}
use Rattle.std.specs.List.{flat_map}
use Rattle.model_core.specs.Text.Canonical.{table_line}
use Rattle.model_core.specs.Code.Views.{table_of}
use Rattle.model_print.proofs.declarations.put_tables.Given as goal

abbrev pub invariant-loop-table : goal.invariant-loop-table
invariant-loop-table g l = g.P.Pen.adds l.initial.out l.out (flat_map table_line (map table_of (take l.table-index l.tables)))
