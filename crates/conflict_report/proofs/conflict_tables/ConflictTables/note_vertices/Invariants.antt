use Rattle.model_core.specs.Code.Views.{graph_of}
use Rattle.conflict_report.specs.Inner.ReasonsFound.{NotedBefore}
use Rattle.conflict_report.proofs.conflict_tables.ConflictTables.note_vertices.Given as goal

abbrev pub invariant-loop-place : goal.invariant-loop-place
invariant-loop-place l = NotedBefore (graph_of l.model) l.place l.self
