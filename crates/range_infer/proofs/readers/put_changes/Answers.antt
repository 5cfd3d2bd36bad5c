-- One change more.
use Rattle.std.proofs.Common.{ℕ, false, sym, ap, ◌∙◌}
use Rattle.range_infer.specs.Inner.Readers.{put_values}
use Rattle.range_infer.proofs.OneMorePut.{put_more, all_put}
use Rattle.range_infer.proofs.readers.put_changes.Goals as goal

pub loop-place-preserved : goal.loop-place-preserved
loop-place-preserved c = put_more (λ (k : ℕ). put_values (record { vertex = c.args.vertex; is_edge = false; place = k })) c.args.sets.now c.loop-place.place c.loop-place.readers.items _ c.loop-place.invariant c.index-sets-place.result c.index-sets-place.result c.put_values.new.readers.items c.loop-place-test.true (sym c.index-sets-place.is) (c.in_ok-put_values.ensures ∙ ap (put_values (record { vertex = c.args.vertex; is_edge = false; place = c.loop-place.place }) c.loop-place.readers.items) c.as_slice.ensures)

pub returns : goal.returns
returns c = all_put (λ (k : ℕ). put_values (record { vertex = c.args.vertex; is_edge = false; place = k })) c.args.sets.now c.loop-place.place c.loop-place.readers.items _ c.loop-place.invariant c.loop-place-test.false
