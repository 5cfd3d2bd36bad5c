use Rattle.model_core.specs.Run.History.{look}
use Rattle.model_pairs.proofs.SameLines.{looks_apart}
use Rattle.model_pairs.proofs.apart_law.lines_apart_are_looks_apart.Goals as goal

pub returns : goal.returns
returns c = λ g h declared seed until events starts lines apart. looks_apart g h declared until events (look g seed starts until events) (look h seed starts until events) lines apart
