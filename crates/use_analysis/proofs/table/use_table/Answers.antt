-- All uses are noted, and give the table.
use Rattle.std.proofs.Common.{◌∙◌, ap, sym, List, map}
use Rattle.std.proofs.lemmas.List.{length-map}
use Rattle.model_core.specs.declared.model.Watch.{Watch}
use Rattle.model_core.specs.declared.vertex.Vertex.{Vertex}
use Rattle.model_core.specs.EventGraph.{watched_variables}
use Rattle.model_core.specs.Code.Views.{graph_of, variable_of, vertex_of, watched_of}
use Rattle.use_analysis.specs.declared.table.Use.TheVariants as kinds
use Rattle.use_analysis.specs.UseRows.{uses_row}
use Rattle.use_analysis.specs.Inner.Noting.{noted_all, noted_vertices, rows_unused}
use Rattle.use_analysis.proofs.NotedRows.{noted-table}
use Rattle.use_analysis.proofs.table.use_table.Goals as goal

pub returns : goal.returns
returns c =
    let m = c.args.model.now in
    let g = graph_of m in
    let ws = watched_variables (map watched_of m.watch) in
    ap (map uses_row) c.from_vec.ensures ∙ c.in_ok-note_vertices.ensures
    ∙ ap (λ (vs : List Vertex). noted_vertices 0 (map vertex_of vs) (map uses_row c.note_watched.new.rows.items)) c.as_slice-2.ensures
    ∙ ap (noted_vertices 0 g.vertices)
    (c.in_ok-note_watched.ensures
    ∙ ap (λ (watch : List Watch). noted_all kinds.Watched (watched_variables (map watched_of watch)) (map uses_row c.in_ok-rows.rows.items)) c.as_slice.ensures
    ∙ ap (noted_all kinds.Watched ws) (c.in_ok-rows.ensures ∙ ap rows_unused (c.len.ensures ∙ sym (length-map m.vars variable_of))))
    ∙ noted-table g
