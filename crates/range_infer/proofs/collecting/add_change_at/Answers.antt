-- The change that is there.
use Rattle.std.proofs.Common.{◌++◌, ◌∙◌, List, sym, ap}
use Rattle.model_core.specs.Code.Views.{graph_of, change_of}
use Rattle.model_core.specs.declared.incoming.Incoming.{Incoming}
use Rattle.range_infer.specs.Inner.RangesLeft.{variables_left}
use Rattle.range_infer.specs.Inner.PartReads.{set_reads}
use Rattle.range_infer.specs.Inner.LookedAt.{change_seen}
use Rattle.range_infer.proofs.PartsBeside.{made_of_part, part_given}
use Rattle.range_infer.proofs.collecting.add_change_at.Goals as goal

pub add_change-requires : goal.add_change-requires
add_change-requires c = record {
  reads = c.as_slice.ensures ∙ made_of_part change_of set_reads c.args.changes.now c.args.reads.now c.args.place c.index-changes-place.result c.index-reads-place.result c.requires.reads c.if-place-changes.true c.index-changes-place.is c.index-reads-place.is;
}

pub returns-in_ok-add_change-clause-out : goal.returns-in_ok-add_change-clause-out
returns-in_ok-add_change-clause-out c =
    let left = c.args.left.now in
    let seen = change_seen (graph_of left.model.now) c.args.look.now.all c.args.look.now.moved.now (variables_left left) in
    c.in_ok-add_change.ensures.out
    ∙ ap (λ (is : List Incoming). c.args.out.now.items ++ is) (sym (part_given change_of seen c.args.changes.now c.args.place c.index-changes-place.result c.if-place-changes.true c.index-changes-place.is))
