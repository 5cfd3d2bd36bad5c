-- What the condition and the values of the edge at a place read.
use Rattle.model_core.specs.Code.Views.{edge_of}
use Rattle.range_infer.specs.Inner.PartReads.{carried_reads}
use Rattle.range_infer.proofs.PartsBeside.{made_of_part, part_more}
use Rattle.range_infer.proofs.collecting.add_edges.Goals as goal

pub add_edge-requires : goal.add_edge-requires
add_edge-requires c = record {
  reads = made_of_part edge_of carried_reads c.args.edges.now c.args.reads.now c.loop-place.place c.index-edges-place.result c.index-reads-place.result c.requires.reads c.loop-place-test.true c.index-edges-place.is c.index-reads-place.is;
}

pub loop-place-preserved : goal.loop-place-preserved
loop-place-preserved c = part_more c.loop-place.invariant c.loop-place-test.true c.index-edges-place.is c.in_ok-add_edge.ensures.out c.in_ok-add_edge.ensures.left
