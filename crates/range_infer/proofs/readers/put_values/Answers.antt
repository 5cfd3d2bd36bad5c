-- One value more.
use Rattle.std.proofs.Common.{ℕ, List, sym, ap, ◌∙◌}
use Rattle.range_infer.specs.declared.part_reads.ValueReads.{ValueReads}
use Rattle.range_infer.specs.declared.readers.PartPlace.{PartPlace}
use Rattle.range_infer.specs.Inner.Readers.{put_variables}
use Rattle.range_infer.proofs.OneMorePut.{put_more, all_put}
use Rattle.range_infer.proofs.readers.put_values.Goals as goal

pub loop-value-preserved : goal.loop-value-preserved
loop-value-preserved c = put_more (λ (k : ℕ) (lists : List (List PartPlace)) (value : ValueReads). put_variables c.args.part lists value.vars) c.args.values.now c.loop-value.value-index c.loop-value.readers.items _ c.loop-value.invariant c.value-item.result c.value-item.result c.put_variables.new.readers.items c.loop-value-test.true (sym c.value-item.is) (c.in_ok-put_variables.ensures ∙ ap (put_variables c.args.part c.loop-value.readers.items) c.as_slice.ensures)

pub returns : goal.returns
returns c = all_put (λ (k : ℕ) (lists : List (List PartPlace)) (value : ValueReads). put_variables c.args.part lists value.vars) c.args.values.now c.loop-value.value-index c.loop-value.readers.items _ c.loop-value.invariant c.loop-value-test.false
