use Rattle.std.proofs.Common.{refl}
use Rattle.std.specs.Fmt.{digits}
use Rattle.csv.specs.Writing.{fields_text, is_blank}
use Rattle.worked_reports.proofs.reports.a_shelf_is_reported.Goals as goal

pub returns-clause-header : goal.returns-clause-header
unfolding fields_text is_blank
returns-clause-header c = refl

pub returns-clause-run : goal.returns-clause-run
unfolding fields_text is_blank digits
returns-clause-run c = refl

pub returns-clause-unseen : goal.returns-clause-unseen
unfolding fields_text is_blank digits
returns-clause-unseen c = refl

pub returns-clause-totals : goal.returns-clause-totals
unfolding fields_text is_blank digits
returns-clause-totals c = refl
