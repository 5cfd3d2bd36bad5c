-- The length of the result's text is computed, and its numbers with it.
use Rattle.std.proofs.Common.{refl}
use Rattle.std.specs.Fmt.{digits}
use Rattle.model_core.specs.Rules.BoundsTable.{exact_bounds}
use Rattle.worked_rules.proofs.merge_halves.each_other_edge_reads_nothing_written.Goals as goal

pub returns-clause-condition_of_another : goal.returns-clause-condition_of_another
unfolding digits exact_bounds
returns-clause-condition_of_another c = refl

pub returns-clause-given : goal.returns-clause-given
unfolding digits exact_bounds
returns-clause-given c = refl

pub returns-clause-given_a_fault : goal.returns-clause-given_a_fault
unfolding digits exact_bounds
returns-clause-given_a_fault c = refl

pub returns-clause-of_the_second : goal.returns-clause-of_the_second
unfolding digits exact_bounds
returns-clause-of_the_second c = refl

pub returns-clause-drawn_delay_of_the_second : goal.returns-clause-drawn_delay_of_the_second
unfolding digits exact_bounds
returns-clause-drawn_delay_of_the_second c = refl

pub returns-clause-draws_of_both : goal.returns-clause-draws_of_both
unfolding digits exact_bounds
returns-clause-draws_of_both c = refl
