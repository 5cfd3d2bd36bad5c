use Rattle.std.proofs.Common.{codes, decimal, ◌++◌}
use Rattle.trial_report.proofs.Appending.{one_more, at_last}
use Rattle.trial_report.proofs.summary.put_applications.Goals as goal

pub returns : goal.returns
returns c =
    at_last c.put_bytes-2.result _ _ _ (codes "applications " ++ decimal c.args.applications) (codes "\n")
    (one_more _ _ _ (codes "applications ") (decimal c.args.applications) c.in_ok-put_bytes.ensures c.in_ok-put_number.ensures) c.put_bytes-2.ensures
