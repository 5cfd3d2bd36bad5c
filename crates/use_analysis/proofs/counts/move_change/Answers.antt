-- What the change reads moves among the readers, and what it sets among the setters.
use Rattle.model_core.specs.Rules.Uses.{change_reads, change_writes}
use Rattle.model_core.specs.Code.Views.{change_of}
use Rattle.use_analysis.proofs.MovedNumbers.{part_done, part_stamped}
use Rattle.use_analysis.proofs.counts.move_change.Goals as goal

pub returns-clause-readers : goal.returns-clause-readers
returns-clause-readers c =
    part_done c.next_part-part.result (change_reads (change_of c.args.change.now)) c.deref_mut.ensures.value c.next_part-part.new.numbers.readers.ok.0 c.move_read_by_change.auto.numbers
    c.next_part-part.ensures.new_to_readers c.move_read_by_change.ensures c.next_part-part.ensures.way c.next_part-part.ensures.readers

pub returns-clause-stamped_readers : goal.returns-clause-stamped_readers
returns-clause-stamped_readers c =
    part_stamped c.next_part-part.result (change_reads (change_of c.args.change.now)) c.deref_mut.ensures.value c.next_part-part.new.numbers.readers.ok.0 c.move_read_by_change.auto.numbers
    c.next_part-part.ensures.new_to_readers c.move_read_by_change.ensures c.next_part-part.ensures.last

pub returns-clause-setters : goal.returns-clause-setters
returns-clause-setters c =
    part_done c.next_part-part.result (change_writes (change_of c.args.change.now)) c.deref_mut-2.ensures.value c.next_part-part.new.numbers.setters.ok.0 c.move_set_by_change.auto.numbers
    c.next_part-part.ensures.new_to_setters c.move_set_by_change.ensures c.next_part-part.ensures.way c.next_part-part.ensures.setters

pub returns-clause-stamped_setters : goal.returns-clause-stamped_setters
returns-clause-stamped_setters c =
    part_stamped c.next_part-part.result (change_writes (change_of c.args.change.now)) c.deref_mut-2.ensures.value c.next_part-part.new.numbers.setters.ok.0 c.move_set_by_change.auto.numbers
    c.next_part-part.ensures.new_to_setters c.move_set_by_change.ensures c.next_part-part.ensures.last
