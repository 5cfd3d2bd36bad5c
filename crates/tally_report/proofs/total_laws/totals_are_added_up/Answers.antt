use Rattle.tally_report.proofs.AddedRuns.{added_last}
use Rattle.tally_report.proofs.total_laws.totals_are_added_up.Goals as goal

pub returns : goal.returns
returns c = added_last
