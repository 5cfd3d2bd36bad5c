-- the text is put piece by piece
use Rattle.model_core.specs.Code.Views.{graph_of}
use Rattle.model_core.proofs.FusedText.{same_lines}
use Rattle.model_print.proofs.Putting.{put_as, three}
use Rattle.model_print.proofs.VersionLines.{declared_fused}
use Rattle.model_print.proofs.fused_model.put_model_fused.Goals as goal

pub returns : goal.returns
returns g c =
    let was = graph_of c.args.model.now in
    let first = c.requires.first in
    let unwatched = c.requires.unwatched in
    three g.met.P.Pen.both (put_as g.met.P.Pen.both _ (declared_fused was c.args.keep c.args.gone first unwatched _ c.needs_version_two_without.ensures) c.put_declarations.ensures)
    (put_as g.met.P.Pen.both _ (same_lines was c.args.keep c.args.gone first) (rw c.as_slice.ensures at c.put_vertices_for.ensures)) c.put_bytes.ensures
