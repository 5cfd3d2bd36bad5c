-- The parts are read one after another.
use Rattle.model_core.specs.Text.SnapshotGrammar.{snapshot_format}
use Rattle.snapshot_text.specs.Inner.SnapshotHead.{head_format}
use Rattle.snapshot_text.proofs.reading.snapshot.Goals as goal

pub returns : goal.returns
unfolding snapshot_format head_format
returns c = rw (c.in_ok-head.ensures, c.in_ok-streams.ensures, c.in_ok-values.ensures, c.in_ok-noted.ensures, c.in_ok-pending.ensures, c.in_ok-end_at.ensures.reads)
