-- Where all stamps are taken away the numbers stay.
use Rattle.std.proofs.Common.{◌∙◌, ap, subst, sym}
use Rattle.use_analysis.specs.Inner.Moving.{numbers_of, StampedTo}
use Rattle.use_analysis.proofs.MovedNumbers.{wiped_numbers, wiped_stamps}
use Rattle.use_analysis.proofs.counts.ensure_free_stamp.Goals as goal

pub returns-clause-readers : goal.returns-clause-readers
returns-clause-readers c = ap numbers_of c.clear_stamps.ensures ∙ wiped_numbers c.args.numbers.now.readers.items

pub returns-clause-setters : goal.returns-clause-setters
returns-clause-setters c = ap numbers_of c.clear_stamps-2.ensures ∙ wiped_numbers c.args.numbers.now.setters.items

pub returns-clause-stamped_readers : goal.returns-clause-stamped_readers
returns-clause-stamped_readers c = subst (StampedTo 0) (sym c.clear_stamps.ensures) (wiped_stamps c.args.numbers.now.readers.items)

pub returns-clause-stamped_setters : goal.returns-clause-stamped_setters
returns-clause-stamped_setters c = subst (StampedTo 0) (sym c.clear_stamps-2.ensures) (wiped_stamps c.args.numbers.now.setters.items)
