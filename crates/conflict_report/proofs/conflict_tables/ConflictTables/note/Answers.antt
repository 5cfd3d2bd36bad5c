-- Each table has what its list adds, and that of the used variables what two add.
use Rattle.std.proofs.Common.{refl}
use Rattle.std.proofs.lemmas.Result.{on_ok_weaker}
use Rattle.conflict_report.proofs.TablesNoted.{vertex-noted}
use Rattle.conflict_report.proofs.conflict_tables.ConflictTables.note.Goals as goal

pub returns : goal.returns
returns c =
    on_ok_weaker c.put_all-6.result
    (vertex-noted c.args.place c.args.touched.now _ c.args.self.now _ c.put_all-2.new.self c.as_slice.result.now c.as_slice-2.result.now c.as_slice-3.result.now c.as_slice-4.result.now c.as_slice-5.result.now c.as_slice-6.result.now
    c.touched.view_is c.as_slice.ensures.value c.as_slice-2.ensures.value c.as_slice-3.ensures.value c.as_slice-4.ensures.value c.as_slice-5.ensures.value c.as_slice-6.ensures.value
    refl c.in_ok-put_all.ensures c.in_ok-put_all-2.ensures c.in_ok-put_all-3.ensures c.in_ok-put_all-4.ensures c.in_ok-put_all-5.ensures)
    c.put_all-6.ensures
