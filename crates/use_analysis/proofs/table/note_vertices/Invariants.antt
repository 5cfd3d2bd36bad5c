use Rattle.std.proofs.Common.{◌≡◌, map, drop}
use Rattle.model_core.specs.Code.Views.{vertex_of}
use Rattle.use_analysis.specs.UseRows.{uses_row}
use Rattle.use_analysis.specs.Inner.Noting.{noted_vertices}
use Rattle.use_analysis.proofs.table.note_vertices.Given as goal

abbrev pub invariant-loop-place : goal.invariant-loop-place
invariant-loop-place l =
    noted_vertices l.place (map vertex_of (drop l.place l.vertices)) (map uses_row l.rows.items)
    ≡ noted_vertices 0 (map vertex_of l.vertices) (map uses_row l.initial.rows.items)
