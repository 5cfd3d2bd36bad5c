use Rattle.model_core.specs.Code.WrittenViews.{written_name, written_vertex}
use Rattle.model_core.specs.Static.Meanings.{meaning_of}
use Rattle.static_laws.proofs.LeftOut.{map-items}
use Rattle.static_laws.proofs.VertexParts.{vertex_checked}
use Rattle.sig_types.proofs.vertices.parts_of.Goals as goal

pub returns : goal.returns
returns c =
    let params = rw (c.items.ensures, map-items written_name c.args.raw.now.params) at c.in_ok-params.ensures in
    vertex_checked (meaning_of c.args.names.now) c.args.taken.now _ c.report_long_name.new.fault c.parameters.new.fault c.report_too_many.new.fault c.changes.new.fault c.report_too_many-2.new.fault _ (written_vertex c.args.raw.now) _ _ _
    c.report_long_name.ensures params (rw c.as_slice.ensures at c.report_too_many.ensures) (rw c.as_slice-2.ensures at c.in_ok-changes.ensures) (rw c.as_slice-3.ensures at c.report_too_many-2.ensures) (rw c.as_slice-4.ensures at c.in_ok-edges.ensures)
