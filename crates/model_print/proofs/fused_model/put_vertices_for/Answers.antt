-- the invariant after one element more
use Rattle.model_core.specs.EventGraph.{EventVertex}
use Rattle.model_core.specs.Text.Canonical.{vertex_lines}
use Rattle.model_core.specs.Rules.Drop.{vertex_renumbered}
use Rattle.model_core.specs.Rules.Fuse.{standing_for}
use Rattle.model_core.specs.Code.Views.{graph_of, vertex_of}
use Rattle.model_print.proofs.OneEdgeLess.{more_but_one}
use Rattle.model_print.proofs.fused_model.put_vertices_for.Goals as goal

pub loop-place-preserved : goal.loop-place-preserved
loop-place-preserved g c = more_but_one g.met.P.Pen.both vertex_of (λ (v : EventVertex). vertex_lines (graph_of c.args.model.now) (vertex_renumbered (standing_for c.args.keep c.args.gone) v)) c.args.vertices.now c.loop-place.place c.index-vertices-place.result c.args.gone c.loop-place-test.true c.index-vertices-place.is c.loop-place.invariant c.put_vertex_unless.ensures
