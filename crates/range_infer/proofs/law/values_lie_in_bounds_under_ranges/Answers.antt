use Rattle.model_core.specs.Run.Value.{value_of}
use Rattle.model_core.specs.Ranges.BoundsIn.{bounds_in}
use Rattle.bound_laws.proofs.Soundness.TruthEnds.{within_ends}
use Rattle.range_infer.proofs.UnderRanges.{under_ranges}
use Rattle.range_infer.proofs.law.values_lie_in_bounds_under_ranges.Goals as goal

pub returns-clause-inside : goal.returns-clause-inside
returns-clause-inside c = λ g ranges s clk e k x keep fitting inside early is done. (under_ranges g ranges s clk e k keep fitting inside early is).inside x done

pub returns-clause-between : goal.returns-clause-between
returns-clause-between c = λ g ranges s clk e k x keep fitting inside early is done. within_ends k (bounds_in g ranges e) (value_of g s clk e) x (under_ranges g ranges s clk e k keep fitting inside early is) done

pub returns-clause-no_fault : goal.returns-clause-no_fault
returns-clause-no_fault c = λ g ranges s clk e k keep fitting inside early is quiet. (under_ranges g ranges s clk e k keep fitting inside early is).safe quiet
