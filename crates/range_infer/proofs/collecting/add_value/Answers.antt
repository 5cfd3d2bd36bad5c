-- The value at the place is looked at, is passed over, or is missing.
use Rattle.std.proofs.Common.{◌∙◌, sym, ap}
use Rattle.model_core.specs.Code.Views.{expression_of}
use Rattle.range_infer.specs.Inner.RangesLeft.{variables_left}
use Rattle.range_infer.specs.Inner.PartReads.{value_reads}
use Rattle.range_infer.specs.declared.part_reads.ValueReads.{ValueReads}
use Rattle.range_infer.proofs.AssignedBeside.{value_seen, value_passed, no_value}
use Rattle.range_infer.proofs.PartsBeside.{made_of_part}
use Rattle.range_infer.proofs.collecting.add_value.Goals as goal

pub value_bounds-requires : goal.value_bounds-requires
value_bounds-requires c =
    let read = made_of_part expression_of value_reads c.args.values.now c.args.reads.now c.args.place c.index-values-place.result c.index-reads-place.result c.requires.reads c.if-place-values.true c.index-values-place.is c.index-reads-place.is in
    c.as_slice-then-looks_at.ensures ∙ ap (λ (value : ValueReads). value.postfix) read

pub returns-in_ok-push-clause-out : goal.returns-in_ok-push-clause-out
returns-in_ok-push-clause-out c =
    let look = c.args.look.now in
    let read = made_of_part expression_of value_reads c.args.values.now c.args.reads.now c.args.place c.index-values-place.result c.index-reads-place.result c.requires.reads c.if-place-values.true c.index-values-place.is c.index-reads-place.is in
    value_seen look.all look.moved.now (variables_left c.args.left.now) c.args.variable c.args.values.now c.args.place c.index-values-place.result c.as_slice.result.now c.in_ok-bounds.bounds c.args.out.now.items c.push.new.self.items c.if-place-values.true c.index-values-place.is (c.as_slice.ensures ∙ ap (λ (value : ValueReads). value.vars) read) (sym c.looks_at.ensures ∙ c.if-looks_at.true) c.in_ok-bounds.ensures.bounds c.in_ok-push.ensures.items

pub returns-else-looks_at-clause-out : goal.returns-else-looks_at-clause-out
returns-else-looks_at-clause-out c =
    let look = c.args.look.now in
    let read = made_of_part expression_of value_reads c.args.values.now c.args.reads.now c.args.place c.index-values-place.result c.index-reads-place.result c.requires.reads c.if-place-values.true c.index-values-place.is c.index-reads-place.is in
    value_passed look.all look.moved.now (variables_left c.args.left.now) c.args.variable c.args.values.now c.args.place c.index-values-place.result c.as_slice.result.now c.args.out.now.items c.if-place-values.true c.index-values-place.is (c.as_slice.ensures ∙ ap (λ (value : ValueReads). value.vars) read) (sym c.looks_at.ensures ∙ c.if-looks_at.false)

pub returns-else-place-values-clause-out : goal.returns-else-place-values-clause-out
returns-else-place-values-clause-out c = no_value c.args.look.now.all c.args.look.now.moved.now (variables_left c.args.left.now) c.args.variable c.args.values.now c.args.place c.args.out.now.items c.if-place-values.false
