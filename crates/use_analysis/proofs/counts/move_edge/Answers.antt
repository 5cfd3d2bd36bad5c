-- What the edge reads moves, and the setters stay.
use Rattle.model_core.specs.Rules.Uses.{edge_reads}
use Rattle.model_core.specs.Code.Views.{edge_of}
use Rattle.use_analysis.proofs.MovedNumbers.{part_done, part_stamped, stamped_to}
use Rattle.use_analysis.proofs.counts.move_edge.Goals as goal

pub returns-clause-readers : goal.returns-clause-readers
returns-clause-readers c =
    part_done c.next_part-part.result (edge_reads (edge_of c.args.edge.now)) c.deref_mut.ensures.value c.next_part-part.new.numbers.readers.ok.0 c.move_read_by_edge.auto.numbers
    c.next_part-part.ensures.new_to_readers c.move_read_by_edge.ensures c.next_part-part.ensures.way c.next_part-part.ensures.readers

pub returns-clause-stamped_readers : goal.returns-clause-stamped_readers
returns-clause-stamped_readers c =
    part_stamped c.next_part-part.result (edge_reads (edge_of c.args.edge.now)) c.deref_mut.ensures.value c.next_part-part.new.numbers.readers.ok.0 c.move_read_by_edge.auto.numbers
    c.next_part-part.ensures.new_to_readers c.move_read_by_edge.ensures c.next_part-part.ensures.last

pub returns-clause-stamped_setters : goal.returns-clause-stamped_setters
returns-clause-stamped_setters c = stamped_to _ _ _ c.next_part-part.ensures.last c.next_part-part.ensures.new_to_setters
