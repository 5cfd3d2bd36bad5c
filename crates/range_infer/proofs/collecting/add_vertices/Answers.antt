-- What the parts of the vertex at a place read.
use Rattle.model_core.specs.Code.Views.{vertex_of}
use Rattle.range_infer.specs.Inner.PartReads.{parts_read}
use Rattle.range_infer.proofs.PartsBeside.{made_of_part, part_more}
use Rattle.range_infer.proofs.collecting.add_vertices.Goals as goal

pub add_vertex-requires : goal.add_vertex-requires
add_vertex-requires c = record {
  reads = made_of_part vertex_of parts_read c.args.vertices.now c.args.reads.now c.loop-place.place c.index-vertices-place.result c.index-reads-place.result c.requires.reads c.loop-place-test.true c.index-vertices-place.is c.index-reads-place.is;
}

pub loop-place-preserved : goal.loop-place-preserved
loop-place-preserved c = part_more c.loop-place.invariant c.loop-place-test.true c.index-vertices-place.is c.in_ok-add_vertex.ensures.out c.in_ok-add_vertex.ensures.left
