-- What the values read that the change at a place sets.
use Rattle.std.proofs.Common.{◌∙◌}
use Rattle.model_core.specs.Code.Views.{change_of}
use Rattle.range_infer.specs.Inner.PartReads.{set_reads}
use Rattle.range_infer.proofs.PartsBeside.{made_of_part, part_more}
use Rattle.range_infer.proofs.collecting.add_changes.Goals as goal

pub add_change-requires : goal.add_change-requires
add_change-requires c = record {
  reads = c.as_slice.ensures ∙ made_of_part change_of set_reads c.args.changes.now c.args.reads.now c.loop-place.place c.index-changes-place.result c.index-reads-place.result c.requires.reads c.loop-place-test.true c.index-changes-place.is c.index-reads-place.is;
}

pub loop-place-preserved : goal.loop-place-preserved
loop-place-preserved c = part_more c.loop-place.invariant c.loop-place-test.true c.index-changes-place.is c.in_ok-add_change.ensures.out c.in_ok-add_change.ensures.left
