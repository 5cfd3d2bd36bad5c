use Rattle.std.proofs.Common.{◌≡◌, length}
use Rattle.std.specs.Vec.Iter.{into_iter_items, into_iter_len}
use Rattle.model_core.specs.Code.Views.{table_of}
use Rattle.model_core.specs.Code.WrittenViews.{written_table}
use Rattle.model_core.specs.Text.Numbering.{table}
use Rattle.model_core.specs.Static.PartFaults.{table_faults}
use Rattle.static_laws.proofs.Checks.{no_meaning}
use Rattle.static_laws.proofs.ListChecks.{CheckedTo}
use Rattle.sig_types.proofs.tables.check_tables.Given as goal

-- the tables before those that are left are checked
abbrev pub invariant-loop-raw : goal.invariant-loop-raw
invariant-loop-raw l = record {
  so_far : CheckedTo no_meaning table_of written_table table_faults (λ d. table) l.fn.fault l.fault l.fn.raws (into_iter_items l.raw-iterator) l.tables.items;
  counted : into_iter_len l.raw-iterator ≡ length (into_iter_items l.raw-iterator);
}
