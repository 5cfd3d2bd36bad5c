use Rattle.snapshot_text.proofs.SnapshotReadsBack.{snapshot-at}
use Rattle.snapshot_text.proofs.laws.saved_runs_read_back.Goals as goal

pub returns : goal.returns
returns c = λ g s at kept this_name good. snapshot-at g kept this_name at s good
