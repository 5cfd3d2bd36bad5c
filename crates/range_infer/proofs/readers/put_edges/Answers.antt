-- One edge more.
use Rattle.std.proofs.Common.{ℕ, true, sym}
use Rattle.range_infer.specs.Inner.Readers.{put_edge}
use Rattle.range_infer.proofs.OneMorePut.{put_more, all_put}
use Rattle.range_infer.proofs.readers.put_edges.Goals as goal

pub loop-place-preserved : goal.loop-place-preserved
loop-place-preserved c = put_more (λ (k : ℕ). put_edge (record { vertex = c.args.vertex; is_edge = true; place = k })) c.args.carried.now c.loop-place.place c.loop-place.readers.items _ c.loop-place.invariant c.index-carried-place.result c.index-carried-place.result c.put_edge.new.readers.items c.loop-place-test.true (sym c.index-carried-place.is) c.in_ok-put_edge.ensures

pub returns : goal.returns
returns c = all_put (λ (k : ℕ). put_edge (record { vertex = c.args.vertex; is_edge = true; place = k })) c.args.carried.now c.loop-place.place c.loop-place.readers.items _ c.loop-place.invariant c.loop-place-test.false
