-- Where the left always wins, all games between vertices without keys are played.
use Rattle.event_heap.proofs.TournamentLaws.Opened.{opened-played}
use Rattle.event_heap.proofs.opening.set_up.Goals as goal

pub returns : goal.returns
returns c = opened-played c.args.vertices c.win_left.new.winners c.win_left.ensures
