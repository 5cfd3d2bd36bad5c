use Rattle.static_laws.proofs.Checks.{both}
use Rattle.sig_types.proofs.changes.source.Goals as goal

pub returns : goal.returns
returns c = both c.bounded-stream.ensures.checked c.choice-choice.ensures
