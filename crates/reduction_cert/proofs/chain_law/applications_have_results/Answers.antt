use Rattle.reduction_cert.proofs.Chains.{applied-is, first_bad-None}
use Rattle.reduction_cert.proofs.chain_law.applications_have_results.Goals as goal

pub returns-clause-one : goal.returns-clause-one
returns-clause-one c = applied-is

pub returns-clause-all : goal.returns-clause-all
returns-clause-all c = first_bad-None
