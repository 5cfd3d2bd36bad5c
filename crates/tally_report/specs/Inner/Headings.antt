-- The columns ahead in a row of the code.
use Rattle.tally_report.specs.declared.rows.RowHead.{RowHead}
use Rattle.tally_report.specs.ReportText.{Heading}

abbrev pub heading_of : RowHead → Heading
heading_of h = record { run = h.run.now; seed = h.seed.now; outcome = h.outcome.now; time = h.time.now; last = h.last }
