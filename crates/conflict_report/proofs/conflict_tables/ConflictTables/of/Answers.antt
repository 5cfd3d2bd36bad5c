-- Before any vertex.
use Rattle.conflict_report.proofs.NumbersNoted.{none-before}
use Rattle.conflict_report.proofs.conflict_tables.ConflictTables.of.Goals as goal

pub note_vertices-requires : goal.note_vertices-requires
note_vertices-requires c = record {
  none = record {
    by_priority = c.in_ok-holders_of_priorities.ensures;
    by_written = none-before _ c.new.result c.new.ensures;
    by_used = none-before _ c.new-2.result c.new-2.ensures;
    by_stream = none-before _ c.new-3.result c.new-3.ensures;
    by_named = none-before _ c.new-4.result c.new-4.ensures;
    by_cancelled = none-before _ c.new-5.result c.new-5.ensures;
  };
}
