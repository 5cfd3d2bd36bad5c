-- the invariant after one element more
use Rattle.std.proofs.lemmas.List.{map_more}
use Rattle.model_core.specs.Text.Canonical.{watched_name}
use Rattle.model_core.specs.Code.Views.{watched_of, graph_of}
use Rattle.model_print.proofs.Putting.{one_more_after_comma}
use Rattle.model_print.proofs.declarations.put_watched_names.Goals as goal

pub loop-next-preserved : goal.loop-next-preserved
loop-next-preserved g c = one_more_after_comma g.met.P.Pen.both (watched_name (graph_of c.args.model.now)) _ _ _ (map_more watched_of _ c.loop-next.next-index _ c.loop-next-test.true) c.loop-next.invariant c.put_comma.ensures c.put_watched-in-loop-next.ensures

pub loop-next-init : goal.loop-next-init
loop-next-init g c = g.met.P.Pen.nothing _
