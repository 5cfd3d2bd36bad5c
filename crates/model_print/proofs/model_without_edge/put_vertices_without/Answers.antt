-- the invariant after one element more
use Rattle.model_core.specs.Text.Canonical.{vertex_lines}
use Rattle.model_core.specs.Rules.Prune.{without_edge}
use Rattle.model_core.specs.Code.Views.{graph_of, vertex_of}
use Rattle.model_print.proofs.OneEdgeLess.{more_with_one}
use Rattle.model_print.proofs.model_without_edge.put_vertices_without.Goals as goal

pub loop-place-preserved : goal.loop-place-preserved
loop-place-preserved g c = more_with_one g.met.P.Pen.both vertex_of (vertex_lines (graph_of c.args.model.now)) (without_edge c.args.edge) c.args.vertices.now c.loop-place.place c.index-vertices-place.result c.args.lacking c.loop-place-test.true c.index-vertices-place.is c.loop-place.invariant c.put_either.ensures
