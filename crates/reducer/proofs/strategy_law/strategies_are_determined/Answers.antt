use Rattle.std.proofs.Common.{ap}
use Rattle.reducer.proofs.OneStrategy.{one_strategy}
use Rattle.reducer.proofs.strategy_law.strategies_are_determined.Goals as goal

pub returns-clause-applications : goal.returns-clause-applications
returns-clause-applications c = λ g h k applications others p q. ap (λ r. r.applications) (one_strategy applications others g h k p q)

pub returns-clause-reduced : goal.returns-clause-reduced
returns-clause-reduced c = λ g h k applications others p q. ap (λ r. r.graph) (one_strategy applications others g h k p q)
