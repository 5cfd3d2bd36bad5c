-- One vertex more.
use Rattle.model_core.specs.Code.Views.{graph_of}
use Rattle.conflict_report.proofs.TablesNoted.{tables-next}
use Rattle.conflict_report.proofs.conflict_tables.ConflictTables.note_vertices.Goals as goal

pub loop-place-preserved : goal.loop-place-preserved
loop-place-preserved c =
    tables-next (graph_of c.args.model.now) c.loop-place.place c.loop-place.self c.note_vertex.new.self c.loop-place.invariant c.in_ok-note_vertex.ensures
