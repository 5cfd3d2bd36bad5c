use Rattle.static_laws.proofs.OneFirstFault.{found_is_first_fault, accepted_or_first_fault}
use Rattle.static_laws.proofs.static_law.accepted_or_one_fault.Goals as goal

pub returns-clause-first : goal.returns-clause-first
returns-clause-first c = found_is_first_fault

pub returns-clause-accepted : goal.returns-clause-accepted
returns-clause-accepted c = accepted_or_first_fault
