use Rattle.pair_laws.proofs.ExchangedEdges.{exchanged-same, ordered-same, joined_edge-same, tidied-same}
use Rattle.pair_laws.proofs.effects.edges_may_change_places.Goals as goal

pub returns-clause-exchanged : goal.returns-clause-exchanged
returns-clause-exchanged c = exchanged-same

pub returns-clause-ordered : goal.returns-clause-ordered
returns-clause-ordered c = ordered-same

pub returns-clause-one_edge : goal.returns-clause-one_edge
returns-clause-one_edge c = joined_edge-same

pub returns-clause-tidied : goal.returns-clause-tidied
returns-clause-tidied c = tidied-same
