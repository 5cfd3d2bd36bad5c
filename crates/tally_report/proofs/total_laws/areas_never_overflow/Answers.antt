use Rattle.tally_report.proofs.AddedRuns.{small_totals, area_fits}
use Rattle.tally_report.proofs.total_laws.areas_never_overflow.Goals as goal

pub returns-clause-small : goal.returns-clause-small
returns-clause-small c = small_totals

pub returns-clause-fits : goal.returns-clause-fits
returns-clause-fits c = λ runs span area few small. area_fits runs area few small
