-- The parts are read one after another.
use Rattle.snapshot_text.specs.Inner.SnapshotHead.{head_format}
use Rattle.snapshot_text.proofs.reading.head.Goals as goal

pub returns : goal.returns
unfolding head_format
returns c =
    rw (
      c.in_ok-this_name.ensures.reads,
      c.in_ok-seed_at.ensures.reads,
      c.in_ok-seed.ensures.reads,
      c.in_ok-seed_rest.ensures.reads,
      c.in_ok-clock_at.ensures.reads,
      c.in_ok-clock.ensures.reads,
      c.in_ok-events_at.ensures.reads,
      c.in_ok-events.ensures.reads,
    )
