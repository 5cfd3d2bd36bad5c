use Rattle.order_laws.proofs.AlikeRuns.{looks-alike}
use Rattle.order_laws.proofs.due_order.due_order_decides.Goals as goal

pub returns : goal.returns
returns c = looks-alike
