-- The lists of what moved, or all parts are gone through.
use Rattle.std.proofs.Common.{inl, length, ap, sym, subst, ◌∙◌}
use Rattle.std.proofs.lemmas.Result.{IfOk-weaker}
use Rattle.model_core.specs.Code.Views.{graph_of}
use Rattle.range_infer.specs.Inner.Moved.{MarksMoved}
use Rattle.range_infer.specs.Inner.Readers.{HasReaders}
use Rattle.range_infer.proofs.ListsReadAgain.{by_lists}
use Rattle.range_infer.proofs.collecting.taken_by_moved_readers.Goals as goal

pub returns-then-are_few : goal.returns-then-are_few
returns-then-are_few c =
    let g = graph_of c.args.model.now in
    let moved = c.as_slice.result.now in
    let readers = c.args.readers.now in
    let parts = c.as_slice-then-are_few.result.now in
    IfOk-weaker c.taken_by.result _ _ (λ takes taken.
    by_lists g c.args.old.now c.args.new.now moved _ (ap length c.as_slice.ensures.value ∙ c.in_ok-moved.ensures.many ∙ c.requires.many)
    (subst (MarksMoved c.args.old.now c.args.new.now) (sym c.as_slice.ensures.value) c.in_ok-moved.ensures.marks)
    c.args.reads.now c.requires.reads readers c.requires.readers parts
    (subst (HasReaders moved readers (length moved)) (sym c.as_slice-then-are_few.ensures.value) c.in_ok-parts.ensures) takes.items taken) c.taken_by.ensures

pub returns : goal.returns
returns c = IfOk-weaker c.incoming_seen.result _ _ (λ takes taken. record {
  moved = c.as_slice.result.now;
  marks = subst (MarksMoved c.args.old.now c.args.new.now) (sym c.as_slice.ensures.value) c.in_ok-moved.ensures.marks;
  are = inl taken;
}) c.incoming_seen.ensures
