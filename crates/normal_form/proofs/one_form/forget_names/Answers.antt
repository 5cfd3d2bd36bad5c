-- The name of the model and those of each list are taken away, and nothing else.
use Rattle.std.proofs.Common.{◌≡◌, ◌∙◌, List, ap, map}
use Rattle.sig_base.specs.declared.table.Table.{Table}
use Rattle.model_core.specs.declared.model.Var.{Var}
use Rattle.model_core.specs.declared.vertex.Vertex.{Vertex}
use Rattle.model_core.specs.Code.Views.{variable_of, table_of, watched_of, vertex_of}
use Rattle.alike_laws.specs.Nameless.{variable_nameless, table_nameless, vertex_nameless}
use Rattle.normal_form.proofs.one_form.forget_names.Goals as goal

pub returns : goal.returns
returns c =
    let m = c.args.model.now in
    let variables : map variable_of c.forget_variable_names.new.vars.items ≡ map variable_nameless (map variable_of m.vars) =
    c.forget_variable_names.ensures ∙ ap (λ (vs : List Var). map variable_nameless (map variable_of vs)) c.as_mut_vec-2.ensures.shows in
    let tables : map table_of c.forget_table_names.new.tables.items ≡ map table_nameless (map table_of m.tables) =
    c.forget_table_names.ensures ∙ ap (λ (ts : List Table). map table_nameless (map table_of ts)) c.as_mut_vec-3.ensures.shows in
    let vertices : map vertex_of c.forget_vertex_names.new.vertices.items ≡ map vertex_nameless (map vertex_of m.vertices) =
    c.forget_vertex_names.ensures ∙ ap (λ (vs : List Vertex). map vertex_nameless (map vertex_of vs)) c.as_mut_vec-4.ensures.shows in
    λ i. record { name = c.clear.ensures.items i; variables = variables i; tables = tables i; watch = map watched_of m.watch; vertices = vertices i }
