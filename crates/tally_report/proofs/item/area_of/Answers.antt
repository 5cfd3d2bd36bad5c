use Rattle.std.proofs.Common.{sym, subst}
use Rattle.tally_report.specs.SmallAreas.{IsSmallArea}
use Rattle.tally_report.proofs.AreaBounds.{product-small, area-computed}
use Rattle.tally_report.proofs.item.area_of.Goals as goal

pub returns-clause-product : goal.returns-clause-product
returns-clause-product c = area-computed c.args.value c.args.ticks c.ranges.value c.ranges.ticks.fits

pub returns-clause-small : goal.returns-clause-small
returns-clause-small c = subst (IsSmallArea c.args.ticks) (sym (area-computed c.args.value c.args.ticks c.ranges.value c.ranges.ticks.fits)) (product-small c.args.value c.args.ticks c.ranges.value)
