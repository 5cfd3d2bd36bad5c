-- One more has no name.
use Rattle.std.proofs.Common.{ℕ, List, get_or, ap}
use Rattle.model_core.specs.Code.Views.{table_of}
use Rattle.mark_laws.proofs.WrittenAnew.{one_written, all_written}
use Rattle.normal_form.proofs.one_form.forget_table_names.Goals as goal

pub loop-table-preserved : goal.loop-table-preserved
loop-table-preserved c =
    let table = get_or c.loop-table.table-items c.loop-table.table-index c.table-item.result in
    one_written c.loop-table.invariant _ _ c.loop-table-test.true (ap (λ (name : List ℕ). record (table_of table) { name = name }) c.clear.ensures.items)

pub returns : goal.returns
returns c = all_written c.loop-table.invariant _ _ c.loop-table-test.false c.loop-table.auto.table-index-end c.args.tables.now.ok.0 c.deref_mut-table-items.ensures.value
