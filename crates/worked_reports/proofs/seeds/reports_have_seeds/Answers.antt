use Rattle.std.proofs.Common.{refl}
use Rattle.std.specs.Fmt.{digits}
use Rattle.csv.specs.Writing.{fields_text, is_blank}
use Rattle.worked_reports.proofs.seeds.reports_have_seeds.Goals as goal

pub returns : goal.returns
unfolding fields_text is_blank digits
returns c = record {
  five = refl;
  next = refl;
}
