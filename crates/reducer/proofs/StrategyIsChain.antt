-- The strategy's applications are a chain.
use Rattle.std.proofs.Common.{List, [], ◌∷◌}
use Rattle.model_core.specs.EventGraph.{EventGraph}
use Rattle.model_core.specs.Rules.Reduction.{RuleApplication, Chain, Strategy}

pub strategy_is_chain : (g : EventGraph) (applications : List RuleApplication) (h : EventGraph) → Strategy g applications h → Chain g applications h
strategy_is_chain g [] h (finished, e) = e
strategy_is_chain g (a ∷ later) h (is_first, next, made, others) = (next, made, strategy_is_chain next later h others)
