use Rattle.pair_laws.proofs.EdgesOfNow.{now-may_change, now-joined_edge}
use Rattle.pair_laws.proofs.effects.edges_at_one_moment.Goals as goal

pub returns-clause-may_change : goal.returns-clause-may_change
returns-clause-may_change c = now-may_change

pub returns-clause-joins : goal.returns-clause-joins
returns-clause-joins c = now-joined_edge
