use Rattle.reduction_cert.proofs.FewerVariables.{fewer_variables}
use Rattle.reduction_cert.proofs.chain_law.applications_add_no_variables.Goals as goal

pub returns : goal.returns
returns c = fewer_variables
