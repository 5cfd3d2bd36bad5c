use Rattle.model_core.specs.Code.Views.{table_of}
use Rattle.alike_laws.specs.Nameless.{table_nameless}
use Rattle.mark_laws.proofs.WrittenAnew.{WrittenAnew}
use Rattle.normal_form.proofs.one_form.forget_table_names.Given as goal

abbrev pub invariant-loop-table : goal.invariant-loop-table
invariant-loop-table l = WrittenAnew table_of table_nameless l.table-index l.initial.table-items l.table-items
