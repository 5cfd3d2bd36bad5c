use Rattle.model_core.specs.Code.WrittenViews.{written_vertex}
use Rattle.model_core.specs.Static.Meanings.{meaning_of}
use Rattle.one_pass.proofs.VerticesRead.{vertex_taken}
use Rattle.one_pass.proofs.vertices.vertex.Goals as goal

pub returns : goal.returns
returns c =
    rw c.name_of-name.ensures (vertex_taken c.args.is_two (meaning_of c.args.names.now) c.args.taken.now (written_vertex c.in_ok-begun.begun) (written_vertex c.args.expected.now) c.args.cursor.now c.read_vertex_beginning.new.cursor c.body.new.cursor
    c.args.fault.now c.expected_parameters.new.fault c.body.new.fault c.in_ok-params.params _ _
    c.in_ok-begun.ensures c.in_ok-params.ensures.alike c.in_ok-params.ensures.checked c.in_ok-body.ensures)
