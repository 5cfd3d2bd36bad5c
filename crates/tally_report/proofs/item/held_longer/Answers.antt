-- The area up to the one time, and what the last value adds to it.
use Rattle.tally_report.proofs.AreaBounds.{held-computed, held-small}
use Rattle.tally_report.proofs.item.held_longer.Goals as goal

pub returns-clause-held : goal.returns-clause-held
returns-clause-held c =
    held-computed c.args.since c.args.time c.args.area c.args.value c.area_of.result c.requires.later c.ranges.time.fits c.ranges.value c.area_of.ensures.product c.requires.small c.area_of.ensures.small

pub returns-clause-small : goal.returns-clause-small
returns-clause-small c = held-small c.args.since c.args.time c.args.area c.area_of.result c.requires.later c.ranges.time.fits c.requires.small c.area_of.ensures.small
