use Rattle.std.proofs.Common.{◌∙◌, ℕ, List, ap, ap₂}
use Rattle.random_streams.specs.Draws.{WordsTaken}
use Rattle.run_snapshot.proofs.AdvancedStreams.{advanced_more, all_advanced}
use Rattle.run_snapshot.proofs.parts_from_snapshot.streams_after.Goals as goal

pub loop-stream-preserved : goal.loop-stream-preserved
loop-stream-preserved c = (
  ap (λ (s : WordsTaken). s.seed) c.advance.ensures ∙ c.loop-stream.invariant.0,
  ap (λ (s : WordsTaken). s.taken) c.advance.ensures ∙ (advanced_more c.args.taken.now c.loop-stream.streams.taken c.loop-stream.stream 0 c.requires.streams c.loop-stream-test.true c.loop-stream.invariant.1).1,
)

pub returns : goal.returns
returns c =
    ap₂ (λ (seed : ℕ) (taken : List ℕ). record { seed = seed; taken = taken }) c.loop-stream.invariant.0
    (all_advanced c.args.taken.now c.loop-stream.streams.taken c.loop-stream.stream c.requires.streams c.loop-stream-test.false c.loop-stream.invariant.1)
