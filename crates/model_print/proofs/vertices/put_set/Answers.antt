-- the text is put piece by piece
use Rattle.std.proofs.Common.{map, arith}
use Rattle.std.proofs.lemmas.Grind.{common_steps}
use Rattle.model_core.specs.Code.Views.{graph_of, expression_of}
use Rattle.model_print.proofs.OneEdgeLess.{set_written}
use Rattle.model_print.proofs.Putting.{put_as, five}
use Rattle.model_print.proofs.vertices.put_set.Goals as goal

pub returns : goal.returns
returns g c =
    put_as g.met.P.Pen.both _ (set_written (graph_of c.args.model.now) c.args.vars.now (map expression_of c.args.values.now) (grind (arith, common_steps)))
    (five g.met.P.Pen.both c.put_bytes.ensures c.put_variable_names.ensures c.put_bytes-2.ensures c.put_expressions.ensures c.put_bytes-3.ensures)
