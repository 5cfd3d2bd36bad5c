-- No stamp is as great as the one after the last.
use Rattle.use_analysis.proofs.MovedNumbers.{stamped_below}
use Rattle.use_analysis.proofs.counts.next_part.Goals as goal

pub returns-clause-new_to_readers : goal.returns-clause-new_to_readers
returns-clause-new_to_readers c = stamped_below _ _ c.ensure_free_stamp.ensures.stamped_readers

pub returns-clause-new_to_setters : goal.returns-clause-new_to_setters
returns-clause-new_to_setters c = stamped_below _ _ c.ensure_free_stamp.ensures.stamped_setters
