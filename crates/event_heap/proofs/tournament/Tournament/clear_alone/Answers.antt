-- Without a key, the games stay won.
use Rattle.event_heap.proofs.TournamentLaws.Alone.{played-clear}
use Rattle.event_heap.proofs.tournament.Tournament.clear_alone.Goals as goal

pub invariant_of-self : goal.invariant_of-self
invariant_of-self c = played-clear c.self.inside.keys.items c.self.inside.winners.items c.args.vertex c.self.invariant (rw c.self.view_is c.requires.vertex) (rw c.self.view_is c.requires.alone)
