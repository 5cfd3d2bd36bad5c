use Rattle.event_laws.proofs.EdgesJoined.{edges_tidied-is}
use Rattle.event_laws.proofs.tidied.tidied_edges_are_tidied_at_each_moment.Goals as goal

pub returns : goal.returns
returns c = λ v base k meets h clk less es rs made. (edges_tidied-is v base meets k h clk less es).gives rs made
