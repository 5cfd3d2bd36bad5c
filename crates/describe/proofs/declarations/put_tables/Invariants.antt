use Rattle.std.proofs.Common.{◌≡◌, ◌++◌, map, take}
use Rattle.std.specs.List.{flat_map}
use Rattle.model_core.specs.Code.Views.{table_of}
use Rattle.describe.specs.Description.{table_sentence}
use Rattle.describe.proofs.declarations.put_tables.Given as goal

abbrev pub invariant-loop-table : goal.invariant-loop-table
invariant-loop-table l = l.out.items ≡ l.initial.out.items ++ flat_map table_sentence (map table_of (take l.table-index l.tables))
