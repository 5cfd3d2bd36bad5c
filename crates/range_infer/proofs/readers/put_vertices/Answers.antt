-- One vertex more.
use Rattle.std.proofs.Common.{sym}
use Rattle.range_infer.specs.Inner.Readers.{put_vertex}
use Rattle.range_infer.proofs.OneMorePut.{put_more, all_put}
use Rattle.range_infer.proofs.readers.put_vertices.Goals as goal

pub loop-vertex-preserved : goal.loop-vertex-preserved
loop-vertex-preserved c = put_more put_vertex c.args.reads.now c.loop-vertex.vertex c.loop-vertex.readers.items _ c.loop-vertex.invariant c.index-reads-vertex.result c.index-reads-vertex.result c.put_vertex.new.readers.items c.loop-vertex-test.true (sym c.index-reads-vertex.is) c.in_ok-put_vertex.ensures

pub returns : goal.returns
returns c = all_put put_vertex c.args.reads.now c.loop-vertex.vertex c.loop-vertex.readers.items _ c.loop-vertex.invariant c.loop-vertex-test.false
