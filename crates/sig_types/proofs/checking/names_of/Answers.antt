use Rattle.std.proofs.Common.{map}
use Rattle.model_core.specs.Code.WrittenViews.{written_variable, written_table, written_vertex}
use Rattle.model_core.specs.Static.Meanings.{variable_declaration, table_declaration, vertex_declaration, declarations_from}
use Rattle.sig_types.proofs.DeclaredInTurn.{three_mean, three_in_turn}
use Rattle.sig_types.proofs.checking.names_of.Goals as goal

pub returns-clause-means : goal.returns-clause-means
returns-clause-means c =
    let raw = c.args.raw.now in
    three_mean (declarations_from variable_declaration 0 (map written_variable raw.vars)) (declarations_from table_declaration 0 (map written_table raw.tables)) (declarations_from vertex_declaration 0 (map written_vertex raw.vertices))
    c.declare_all.new.names c.declare_all-2.new.names c.declare_all-3.new.names
    (rw (c.as_slice.ensures, c.in_ok-names.ensures) at c.in_ok-declare_all.ensures.means) (rw c.as_slice-2.ensures at c.in_ok-declare_all-2.ensures.means) (rw c.as_slice-3.ensures at c.in_ok-declare_all-3.ensures.means)

pub returns-clause-earliest : goal.returns-clause-earliest
returns-clause-earliest c =
    let raw = c.args.raw.now in
    three_in_turn (declarations_from variable_declaration 0 (map written_variable raw.vars)) (declarations_from table_declaration 0 (map written_table raw.tables)) (declarations_from vertex_declaration 0 (map written_vertex raw.vertices))
    c.declare_all.new.names c.declare_all-2.new.names c.declare_all-3.new.names
    (rw (c.as_slice.ensures, c.in_ok-names.ensures) at c.in_ok-declare_all.ensures.means) (rw c.as_slice-2.ensures at c.in_ok-declare_all-2.ensures.means) _ c.declare_all.new.fault c.declare_all-2.new.fault _
    (rw (c.as_slice.ensures, c.in_ok-names.ensures) at c.in_ok-declare_all.ensures.earliest) (rw c.as_slice-2.ensures at c.in_ok-declare_all-2.ensures.earliest) (rw c.as_slice-3.ensures at c.in_ok-declare_all-3.ensures.earliest)
