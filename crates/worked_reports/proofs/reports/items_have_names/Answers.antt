use Rattle.std.proofs.Common.{refl}
use Rattle.std.specs.Fmt.{digits}
use Rattle.worked_reports.proofs.reports.items_have_names.Goals as goal

pub returns : goal.returns
unfolding digits
returns c = record {
  in_order = refl;
  nothing_watched = refl;
}
