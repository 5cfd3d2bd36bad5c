-- the invariant after one element more
use Rattle.sig_base.proofs.Lists.{seen_more}
use Rattle.model_core.specs.Text.Canonical.{table_line}
use Rattle.model_core.specs.Code.Views.{table_of}
use Rattle.model_print.proofs.Putting.{one_more_put}
use Rattle.model_print.proofs.declarations.put_tables.Goals as goal

pub loop-table-preserved : goal.loop-table-preserved
loop-table-preserved g c = one_more_put g.met.P.Pen.both table_line _ _ _ (seen_more table_of _ c.loop-table.table-index c.table-item.result c.loop-table-test.true c.table-item.is) c.loop-table.invariant c.put_table.ensures
