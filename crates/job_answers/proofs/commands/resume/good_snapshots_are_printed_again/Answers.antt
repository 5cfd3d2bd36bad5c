use Rattle.job_answers.proofs.SnapshotShown.{printed-again}
use Rattle.job_answers.proofs.commands.resume.good_snapshots_are_printed_again.Goals as goal

pub returns : goal.returns
returns c = printed-again c.saved_runs_read_back.ensures
