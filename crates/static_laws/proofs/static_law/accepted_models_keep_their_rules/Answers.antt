use Rattle.static_laws.proofs.StaticTwins.ModelTwin.{accepted_by_itself}
use Rattle.static_laws.proofs.static_law.accepted_models_keep_their_rules.Goals as goal

pub returns : goal.returns
returns c = accepted_by_itself
