use Rattle.reducer.proofs.StrategyIsChain.{strategy_is_chain}
use Rattle.reducer.proofs.strategy_law.strategies_keep_the_meaning.Goals as goal

pub returns-clause-chain : goal.returns-clause-chain
returns-clause-chain c = strategy_is_chain

pub returns-clause-valid : goal.returns-clause-valid
returns-clause-valid c = λ g applications h valid strategy. c.chains_keep_the_meaning.ensures.valid g applications h valid (strategy_is_chain g applications h strategy)

pub returns-clause-same : goal.returns-clause-same
returns-clause-same c = λ g applications h valid strategy. c.chains_keep_the_meaning.ensures.same g applications h valid (strategy_is_chain g applications h strategy)
