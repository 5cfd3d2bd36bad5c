use Rattle.alike_laws.proofs.ApartRuns.{apart_not_alike}
use Rattle.alike_laws.proofs.comparing.models_apart_are_not_alike.Goals as goal

pub returns-clause-looks : goal.returns-clause-looks
returns-clause-looks c = apart_not_alike

pub returns-clause-declared : goal.returns-clause-declared
returns-clause-declared c = λ g h differ alike. differ alike.declared
