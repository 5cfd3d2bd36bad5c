use Rattle.std.proofs.Common.{refl}
use Rattle.std.specs.Fmt.{digits}
use Rattle.csv.specs.Writing.{fields_text, is_blank}
use Rattle.worked_reports.proofs.reports.items_have_rows.Goals as goal

pub returns : goal.returns
unfolding fields_text is_blank digits
returns c = record {
  ended = refl;
  faulted = refl;
  stopped = refl;
  spent = refl;
  total = refl;
  largest_seed = refl;
  totals = refl;
}
