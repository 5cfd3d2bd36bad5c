use Rattle.run_control.proofs.KeptParts.{possible_model}
use Rattle.run_control.proofs.possible_model_law.kept_models_can_be_run.Goals as goal

pub returns : goal.returns
returns c = possible_model
