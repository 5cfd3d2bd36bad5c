-- The words grow, and the bit is set.
use Rattle.conflict_report.proofs.BitsOfSets.{put-into}
use Rattle.conflict_report.proofs.vertex_set.VertexSet.put.Goals as goal

pub returns : goal.returns
returns c = put-into c.args.self.now c.grow.new.self c.self.inside.words.items c.args.place c.index_mut.result.now c.in_ok-grow.ensures.same c.in_ok-grow.ensures.long c.self.view_is c.index_mut.ensures.value
